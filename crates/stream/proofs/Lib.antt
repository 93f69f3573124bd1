pub mod Causes
pub mod Returns
pub mod Telling
pub mod Making
pub mod Carried
pub mod CarriedCutting
pub mod Determined
