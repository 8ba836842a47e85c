-- Laws, in reading order.
pub mod Writing
pub mod Joining
