pub mod Texts
pub mod Lengths
pub mod Digits
pub mod Names
pub mod Rows
pub mod Read
