-- Laws, in reading order.
pub mod Decimals
pub mod SlotNames
pub mod Split
pub mod Starting
pub mod WatchTheorem
pub mod Computed
