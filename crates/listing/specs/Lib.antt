pub mod Swept
pub mod Piece
pub mod Theorems
pub mod Private
