-- The lemmas of `site_lines`, by topic.
mod LineFacts
