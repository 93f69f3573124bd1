pub mod Front
pub mod Machine
pub mod Whole
pub mod Sound
pub mod Size
pub mod Shared
