pub mod Templates
pub mod Form
pub mod Reading
pub mod Calls
pub mod Steps
