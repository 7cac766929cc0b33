pub mod Words
pub mod Proved
