pub mod Facts
pub mod Rows
pub mod Entries
pub mod Arms
pub mod Fields
