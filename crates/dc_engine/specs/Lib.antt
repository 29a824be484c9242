pub mod Engine
pub mod Opening
pub mod Answers
pub mod Runs
pub mod NameLists
