pub mod Laws
pub mod Proved
pub mod Attacks
