pub mod Cases
pub mod Inhabited
