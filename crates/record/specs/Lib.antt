pub mod Record
pub mod Unpacked
pub mod Theorems
pub mod Private
