-- Lemmas that laws and functions cite, one file a topic.
pub mod Reaching
