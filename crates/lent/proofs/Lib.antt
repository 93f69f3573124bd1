pub mod LentDriving
pub mod Determined
