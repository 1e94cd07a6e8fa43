pub mod Places
pub mod Items
pub mod Led
pub mod Changing
pub mod NoticeSteps
pub mod Noticing
pub mod NoticeFacts
pub mod Common
