-- The definitions of `site_encoding`, by subject.
pub mod Limits
pub mod Encoding
pub mod Buffers
pub mod Sizes
