-- The lemmas of `strap_table`, by topic.
pub mod Bounds
pub mod Rows
pub mod FirstFault
