-- What a kept capture says of the runs that it records.
pub mod Recorded
pub mod Laws
