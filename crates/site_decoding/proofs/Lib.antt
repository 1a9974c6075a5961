-- The lemmas of `site_decoding`, by topic.
pub mod Readers
mod FormatFacts
mod NumberReaders
mod ListReaders
mod HeadReaders
mod ProductReaders
mod TankReaders
mod GaugeReaders
mod LineReaders
mod Counted
mod Grids
pub mod BytesRead
