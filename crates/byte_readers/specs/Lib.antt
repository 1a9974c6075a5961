-- The definitions of `byte_readers`, by subject.
pub mod ByteReaders
pub mod Readers
