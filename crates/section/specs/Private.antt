-- What private functions promise each other. No public contract cites these files, so they need not be believed.
pub mod Parts
