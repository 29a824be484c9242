-- Lemmas that laws and functions cite, one file a topic.
pub mod Judging
pub mod Excluding
