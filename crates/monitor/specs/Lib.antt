-- How the code speaks of the definitions, which are in the crate machine.
pub mod Lent
