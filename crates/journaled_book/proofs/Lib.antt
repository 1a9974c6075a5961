-- The lemmas of `journaled_book`, by topic.
pub mod Traces
pub mod Growing
pub mod Settling
pub mod Keeping
pub mod Answered
pub mod Answering
