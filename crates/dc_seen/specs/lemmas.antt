-- Lemmas that laws and crates above cite, one file a topic.
pub mod Digits
pub mod Joining
pub mod Standing
pub mod Wanted
