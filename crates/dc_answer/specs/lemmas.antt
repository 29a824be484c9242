-- Lemmas that laws and crates above cite, one file a topic.
pub mod Endings
pub mod Frames
pub mod Judgments
pub mod Loading
pub mod Pages
pub mod Plain
pub mod Reporting
pub mod Stages
