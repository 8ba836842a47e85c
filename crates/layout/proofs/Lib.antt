-- Laws, in reading order.

-- Refusals, and the rule image.
pub mod Refusals
pub mod Image
pub mod Places
pub mod ImageCheck
pub mod ImageComputed
-- The table, and compile.
pub mod Matching
pub mod Marks
pub mod States
pub mod Unmarked
pub mod RowPlaces
pub mod Table
pub mod Compilation
pub mod TableCheck
pub mod TableComputed
