pub mod Numbers
pub mod Playing
pub mod Demand
