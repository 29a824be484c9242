-- The digests of two texts behind what is answered.
pub mod Behind
-- What `check --digest` answers.
pub mod Digests
-- lemmas that crates above cite
pub mod lemmas
