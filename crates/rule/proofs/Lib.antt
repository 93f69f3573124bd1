pub mod Causes
pub mod Readiness
pub mod Determined
