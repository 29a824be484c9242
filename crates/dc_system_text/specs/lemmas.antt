-- Lemmas that functions cite, one file a topic.
pub mod Doubled
pub mod Fronts
pub mod Limits
