-- The definitions of `farm_rounding`, by subject.
pub mod RowNumbers
pub mod Multiple
pub mod Table
