-- The definitions of `sample_site`, by subject.
pub mod Files
