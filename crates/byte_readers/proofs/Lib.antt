-- The lemmas of `byte_readers`, by topic.
pub mod Readers
pub mod NumberReaders
pub mod ListReaders
pub mod Counted
