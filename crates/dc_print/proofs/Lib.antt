mod HexPairs
mod Pieces
