-- The definitions of `farm_ports`, by subject.
pub mod Ports
pub mod Pieces
pub mod Folders
pub mod Links
pub mod Objects
pub mod Copies
pub mod Wires
