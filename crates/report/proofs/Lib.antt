-- Laws, in reading order.
pub mod Offered
pub mod Walking
