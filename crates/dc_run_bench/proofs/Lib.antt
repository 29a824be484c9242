mod Benching
mod Marking
mod Roles
