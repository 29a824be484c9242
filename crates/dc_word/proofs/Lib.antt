pub mod Parity
pub mod Fields
pub mod Vectors
