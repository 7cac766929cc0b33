pub mod Rows
pub mod Runs
pub mod Loop
pub mod Pieces
pub mod Answers
pub mod One
pub mod Sheets
pub mod Proved
