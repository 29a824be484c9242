-- Lemmas that laws cite.
pub mod Heights
