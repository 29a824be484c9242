pub mod RowsOf
pub mod Written
pub mod Placed
pub mod Reported
