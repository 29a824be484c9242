-- The least certificate, and what stands in the way of one.
pub mod Least
pub mod Ways
-- What is reached where there is none, and what is found of all.
pub mod Reached
pub mod Found
-- How it is printed.
pub mod FaultText
-- What the rows of a certificate are, one by one.
pub mod Rows
