-- The definitions of `farm_vcf`, by subject.
pub mod Limits
pub mod Closest
pub mod Grid
pub mod Faults
pub mod Rows
pub mod GrowingRows
pub mod Blocks
pub mod Records
