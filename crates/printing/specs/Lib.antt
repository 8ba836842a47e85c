-- Document 01, "Program `watch`". Read in this order. `printed` (Watch) is all that is printed for an input; Turns has `begin`
-- and `next`
-- as functions of all that is lent to them.
pub mod Ascii
pub mod Lines
pub mod Watch
pub mod Sample
pub mod Turns
