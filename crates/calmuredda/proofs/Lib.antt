pub mod Encoded
pub mod Proved
