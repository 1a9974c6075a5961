-- The definitions of `site_file`, by subject.
pub mod Files
pub mod Members
