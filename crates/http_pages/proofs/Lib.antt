-- The lemmas of `http_pages`, by topic.
pub mod Reasons
pub mod Parts
pub mod Whole
pub mod OneContent
pub mod Heads
