-- Laws, in reading order.
pub mod Runs
pub mod Slots
pub mod Sound
pub mod Lookup
pub mod ReadTheorem
pub mod Computed
