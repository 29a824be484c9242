pub mod Carries
pub mod Headline
pub mod Memory
pub mod Opening
pub mod Orders
pub mod Status
pub mod Words
pub mod World
