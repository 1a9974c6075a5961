-- The lemmas of `farm_base`, by topic.
pub mod Rises
pub mod Additions
pub mod BoolTests
pub mod Known
pub mod Steps
