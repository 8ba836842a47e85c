-- What the functions that write a line promise.
pub mod Wrote
