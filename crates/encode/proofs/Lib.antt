pub mod Arms
pub mod Candidates
