-- The definitions of `batch_lines`, by subject.
pub mod Limits
pub mod Lines
pub mod Reader
