-- What is judged of a whole network, and what it means.
pub mod Judged
pub mod Laws
-- lemmas that laws and functions cite
pub mod lemmas
