pub mod Answers
pub mod Owner
pub mod Input
pub mod Typed
pub mod Claim
