pub mod Numbered
pub mod Same
pub mod ByParts
pub mod Answer
