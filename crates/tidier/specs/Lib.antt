pub mod Tidy
pub mod Spelling
