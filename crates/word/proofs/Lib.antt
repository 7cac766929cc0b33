pub mod Fields
pub mod Signed
pub mod Proved
