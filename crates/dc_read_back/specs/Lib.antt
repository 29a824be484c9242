-- What `observe` prints of numbers, and that it is read back.
pub mod Printed
