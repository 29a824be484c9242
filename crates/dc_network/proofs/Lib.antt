pub mod Twins
pub mod Diamonds
