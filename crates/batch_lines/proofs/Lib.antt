-- The lemmas of `batch_lines`, by topic.
pub mod Pieces
pub mod Kept
pub mod Cuts
pub mod Steps
pub mod WholeLines
