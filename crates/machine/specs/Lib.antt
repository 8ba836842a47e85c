-- Document 01, "Monitor". Read in this order. `Answer` and `Counts` are the types of src/lib.rt, which the
-- definitions share with the code.
pub mod State
pub mod Run
pub mod Areas
pub mod Calls
pub mod Play
pub mod Batch
pub mod Lent
pub mod Promise
