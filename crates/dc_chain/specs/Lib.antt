-- Concentrators in a row: links between them, chains, and where the words come from that leave one.
pub mod Carrying
pub mod Concentrators
pub mod Chains
pub mod SmallChain
pub mod Laws
-- lemmas that laws and crates above cite
pub mod lemmas
