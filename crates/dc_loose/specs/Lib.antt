-- What the machine holds of a box that was taken apart.
pub mod lemmas
