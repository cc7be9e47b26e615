pub mod Alike
pub mod AlikeEach
pub mod Counted
pub mod Following
pub mod Numbers
pub mod OneAnswer
pub mod OneEach
pub mod Standing
