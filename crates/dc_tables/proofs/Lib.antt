pub mod BoundsMade
pub mod Parted
pub mod Placed
