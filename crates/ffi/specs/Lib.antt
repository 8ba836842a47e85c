-- The numbers that stand for answers, and for a head, in the C interface.
pub mod Numbers
pub mod Heads
