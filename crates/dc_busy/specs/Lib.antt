pub mod BusyWindow
pub mod Least
pub mod Watched
-- lemmas that laws and crates above cite
pub mod lemmas
