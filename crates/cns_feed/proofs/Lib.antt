pub mod Common
pub mod DigitLemmas
pub mod RecordLemmas
pub mod PlayLemmas
pub mod SourceLemmas
