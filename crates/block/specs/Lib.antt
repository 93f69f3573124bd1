pub mod Whole
pub mod Calls
pub mod Answered
pub mod Room
