pub mod Stream
pub mod Given
pub mod Calls
pub mod Reached
pub mod Driving
pub mod Promises
pub mod Known
