-- The definitions of `site_decoding`, by subject.
pub mod ByteReaders
pub mod Decoding
pub use Rattle.byte_readers.specs.Readers
pub mod Parts
pub mod Sites
