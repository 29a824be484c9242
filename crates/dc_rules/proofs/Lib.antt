pub mod Doubled
pub mod Telling
pub mod Obeying
pub mod Admits
pub mod Counted
pub mod Meeting
pub mod Visited
pub mod Ticking
