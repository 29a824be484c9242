pub mod SmallChains
