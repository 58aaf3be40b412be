pub mod Reading
pub mod Energy
pub mod Steps
