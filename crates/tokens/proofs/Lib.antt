-- Laws, in reading order.
pub mod Scans
pub mod Classes
pub mod Firsts
pub mod TokenOf
pub mod RunBytes
pub mod Places
pub mod Numbering
