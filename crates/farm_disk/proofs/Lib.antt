-- The lemmas of `farm_disk`, by topic.
pub mod Images
pub mod States
pub mod Replay
pub mod MemoryCalls
pub mod Overlays
pub mod Rebuilt
pub mod Extending
