-- What is proved of lists, for this crate and for those above.
pub mod Picks
pub mod Owners
pub mod Apart
pub mod Found
