-- The lemmas of `desk_access`, by subject.
pub mod Fronts
pub mod Lists
pub mod Spans
pub mod Later
pub mod Asking
