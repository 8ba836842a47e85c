-- The crate's lemmas.
mod Zeros
