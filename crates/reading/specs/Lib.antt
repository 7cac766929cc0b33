pub mod Kind
pub mod Names
pub mod Reading
pub mod Numbers
pub mod Ends
