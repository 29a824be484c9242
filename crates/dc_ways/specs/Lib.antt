-- Links that fit, and ways, as the program has them.
pub mod Members
pub mod Fitting
-- lemmas that functions and crates above cite
pub mod lemmas
