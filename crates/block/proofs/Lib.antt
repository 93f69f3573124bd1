pub mod Answers
pub mod RoomLaws
pub mod RoomByJudge
pub mod ReaderReturns
pub mod Determined
