-- Document 01, "Rules and the plain rewriter". Read in this order.
pub mod Lists
pub mod Rules
pub mod Occurrences
pub mod Rewriter
pub mod Sample
