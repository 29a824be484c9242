pub mod Greatest
pub mod Backlogging
pub mod Waiting
pub mod Lating
pub mod Labelling
pub mod Visiting
pub mod Leaving
pub mod Sending
