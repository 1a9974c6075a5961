-- The lemmas of `farm_recovery`, by topic.
pub mod Decoded
pub mod Acceptance
pub mod OneHistory
pub mod NotRefused
pub mod Refusing
pub mod Judging
