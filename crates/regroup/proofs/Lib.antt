pub mod Shifts
pub mod RegroupLaws
pub mod StepLaws
pub mod Loose
pub mod LooseCuts
