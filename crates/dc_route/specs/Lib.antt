pub mod Routing
pub mod Choosing
