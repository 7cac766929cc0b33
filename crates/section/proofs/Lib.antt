pub mod Good
pub mod Answers
pub mod Proved
