pub mod Heat
pub mod Judging
pub mod Records
