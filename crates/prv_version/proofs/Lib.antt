pub mod Reading
pub mod OneAnswer
pub mod OneVersion
