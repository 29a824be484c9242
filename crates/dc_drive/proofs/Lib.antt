mod Halts
mod Roles
pub mod Same
mod Walks
