-- What `design` and `layout` answer.
pub mod Design
pub mod Layout
