-- What was seen, by rows.
pub mod Rows
