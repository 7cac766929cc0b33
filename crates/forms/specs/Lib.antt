pub mod Read
pub mod Private
