pub mod Grids
pub mod Factors
pub mod Losses
pub mod Figures
pub mod Supplies
pub mod Examples
