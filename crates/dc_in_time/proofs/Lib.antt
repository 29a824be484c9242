pub mod Keeping
pub mod Oldest
pub mod Policed
