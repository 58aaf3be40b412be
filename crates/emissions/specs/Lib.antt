pub mod Factor
pub mod Grid
pub mod Loss
pub mod Figure
