-- Lemmas that laws and crates above cite, one file a topic.
pub mod Known
pub mod LineLemmas
