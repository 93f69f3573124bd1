pub mod SpellingLaws
pub mod TidyText
pub mod AcceptedRun
pub mod SpellingSteps
pub mod CleanWritten
pub mod TidierReturns
pub mod Determined
pub mod RoundTrips
