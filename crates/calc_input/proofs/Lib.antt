-- The lemmas of `calc_input`, by topic.
pub mod Digits
pub mod Parts
pub mod LinesTaken
pub mod VolumeRows
pub mod FactorFronts
pub mod TableRead
pub mod Answering
pub mod DueBlanks
pub mod DueVolumes
pub mod FirstBlocks
pub mod DueFactors
pub mod Judging
pub mod VolumesForm
pub mod TableLines
pub mod TableForm
pub mod RefusedLines
