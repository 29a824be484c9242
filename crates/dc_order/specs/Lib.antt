-- Places of concentrators along the links between them, and rings.
pub mod Rings
pub mod Laws
-- lemmas that laws cite
pub mod lemmas
