-- The definitions of `farm_stock`, by subject.
pub mod Books
pub mod Indexes
pub mod Sums
pub mod Postings
pub mod Laws
