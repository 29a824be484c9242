-- Networks of concentrators: what is judged, joint runs, and the ways of words.
pub mod Networks
pub mod JointRuns
pub mod Diamond
pub mod Laws
-- lemmas that laws and crates above cite
pub mod lemmas
