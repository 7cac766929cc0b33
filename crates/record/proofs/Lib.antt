pub mod Cases
pub mod Back
pub mod Accepted
pub mod Pieces
pub mod Whole
pub mod Proved
