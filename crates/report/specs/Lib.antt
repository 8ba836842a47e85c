-- How the code speaks of the definitions of the crate printing.
pub mod Lent
