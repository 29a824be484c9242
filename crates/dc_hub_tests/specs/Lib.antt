pub mod OfBoard
