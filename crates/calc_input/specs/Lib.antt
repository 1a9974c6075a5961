-- The definitions of `calc_input`, by subject.
pub mod Limits
pub mod Lines
pub mod Fields
pub mod VolumesLine
pub mod TableRows
pub mod FactorRows
pub mod LevelsLine
pub mod Forms
pub mod Answer
pub mod RefusedLine
