-- What an accepted certificate means in microseconds.
pub mod Documents
pub mod InTime
pub mod Oldest
-- lemmas that crates above cite
pub mod lemmas
