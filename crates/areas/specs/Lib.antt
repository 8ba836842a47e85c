-- What is lent, what a rewrite gives back, and what gathers bits.
pub mod Bits
pub mod Lent
pub mod Rewritten
