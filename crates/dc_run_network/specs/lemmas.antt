-- Lemmas that functions cite, one file a topic.
pub mod Accepting
pub mod Ends
pub mod Feeds
pub mod Halting
pub mod Long
pub mod Numbers
pub mod Yes
