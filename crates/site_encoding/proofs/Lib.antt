-- The lemmas of `site_encoding`, by topic.
pub mod Puts
pub mod Sizes
pub mod InRange
