pub mod Meaning
pub mod State
