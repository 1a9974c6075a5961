-- The lemmas of `site_tables`, by topic.
mod Files
