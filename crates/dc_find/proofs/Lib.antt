pub mod Jobs
pub mod Numbers
pub mod Lists
pub mod Claimed
pub mod Broken
pub mod Few
pub mod Reaching
