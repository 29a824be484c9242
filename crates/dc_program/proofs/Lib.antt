mod Deciding
mod Opened
mod Running
