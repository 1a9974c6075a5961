-- The lemmas of `site_toml`, by topic.
mod RoundingRows
