pub mod Tests
pub mod Says
pub mod Walk
