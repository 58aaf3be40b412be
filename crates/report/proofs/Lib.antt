pub mod Lists
pub mod Summing
pub mod Heat
pub mod Sites
pub mod Signed
pub mod Walks
