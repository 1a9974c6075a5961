-- The lemmas of `http_requests`, by topic.
pub mod Adding
pub mod Seeking
pub mod DeskRows
pub mod Parameters
pub mod Naming
pub mod Answering
