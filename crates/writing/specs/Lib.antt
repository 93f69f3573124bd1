pub mod Stream
pub mod Numbers
pub mod Moment
pub mod Promised
