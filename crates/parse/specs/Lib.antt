-- What the contracts cite besides the meaning of a text.
pub mod Tested
pub mod Vertices
pub mod Piece
