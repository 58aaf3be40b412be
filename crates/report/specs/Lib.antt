pub mod Intact
pub mod Heat
pub mod Report
pub mod Answers
pub mod Steps
