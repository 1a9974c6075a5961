-- The lemmas of `site_file`, by topic.
pub mod Meaning
