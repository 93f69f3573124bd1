pub mod ToldLaws
pub mod ToldCases
