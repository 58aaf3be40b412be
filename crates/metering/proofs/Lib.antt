pub mod Patterns
pub mod Shifts
pub mod Readings
pub mod Energy
pub mod Examples
