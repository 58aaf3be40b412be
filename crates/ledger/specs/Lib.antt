pub mod Standing
pub mod Exact
pub mod Operations
pub mod Owner
pub mod Claim
pub mod Bench
