pub mod Heard
pub mod Parting
pub mod Surveying
