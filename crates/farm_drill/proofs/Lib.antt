-- The lemmas of `farm_drill`, by topic.
pub mod Endings
pub mod AskingOn
pub mod RecoveredBook
pub mod Marked
