-- The lemmas of `modbus_poll`, by topic.
pub mod Gauges
pub mod Due
pub mod Needs
pub mod SentPieces
pub mod ComePieces
pub mod Ways
