pub mod TableLaws
pub mod MadeLaws
