-- Laws, in reading order.
pub mod Places
pub mod Keeping
pub mod Taking
pub mod Room
pub mod Reading
