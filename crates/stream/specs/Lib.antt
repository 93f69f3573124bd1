pub mod Stepped
pub mod Packed
pub mod Made
pub mod Carried
