-- Laws of marked rules and of the trie that the code builds, in reading order.
pub mod Marks
pub mod Tally
pub mod Nodes
pub mod Growth
pub mod Kept
pub mod Walking
pub mod Building
-- A state's failure state, found from its parent's.
pub mod Failure
-- The rows that are filled from the trie, each state's from its failure state's.
pub mod RowWords
pub mod Laying
pub mod Filling
pub mod Turns
pub mod Filled
