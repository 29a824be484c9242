-- What a certificate says, how a text is read as one, and how one is printed.
pub mod NamedRows
pub mod Bounds
pub mod Faults
pub mod Reading
pub mod Printing
pub mod Limits
