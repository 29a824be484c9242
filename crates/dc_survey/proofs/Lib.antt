mod SameWords
pub mod Surveying
