mod Holds
mod Windows
mod Standing
mod Paces
mod Routing
mod Sending
mod Ticking
mod Starting
