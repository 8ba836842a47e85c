-- The tests that the check of a lent table makes. What they lead to is stated by the definitions of layout alone.
pub mod Consistent
