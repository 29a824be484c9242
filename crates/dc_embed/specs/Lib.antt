pub mod Held
pub mod Slots
pub mod Runs
pub mod Finding
pub mod Margins
pub mod Decoding
