-- Document 01, "Rule image" and "Table", and what a refusal is. Read in this order: the last three say where things stand in an
-- image and a table, and what the code checks, as its contracts and the definitions above need it.
pub mod Refusals
pub mod Image
pub mod States
pub mod Table
pub mod Unmarked
pub mod Compile
pub mod TableCheck
pub mod Places
pub mod ImageCheck
pub mod Words
