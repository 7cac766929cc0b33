pub mod Row
pub mod Meaning
pub mod Table
pub mod Refusals
pub mod Decoded
pub mod Unread
pub mod Theorems
pub mod Private
