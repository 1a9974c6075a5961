-- The definitions of `modbus_poll`, by subject.
pub mod Decoding
pub mod Deadbands
pub mod Pieces
pub mod Polls
