pub mod Sdis
pub mod TableNames
pub mod TableRows
pub mod Named
pub mod Bounds
pub mod Declares
pub mod Places
pub mod KeptOfBuses
