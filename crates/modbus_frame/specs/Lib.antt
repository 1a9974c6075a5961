-- The definitions of `modbus_frame`, by subject.
pub mod Limits
pub mod Requests
pub mod Responses
pub mod Published
pub mod Frames
pub mod Fields
pub mod Stages
