-- The definitions of `key_index`.
pub mod Keys
