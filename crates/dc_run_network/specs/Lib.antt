pub mod Paths
pub mod Codes
pub mod Lines
pub mod Links
pub mod Members
pub mod Answer
pub mod lemmas
