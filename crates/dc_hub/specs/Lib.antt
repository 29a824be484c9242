pub mod Entries
pub mod Views
pub mod Closing
pub mod Opening
