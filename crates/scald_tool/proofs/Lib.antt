pub mod Judgement
pub mod OneAnswer
pub mod Promised
pub mod Verdict
pub mod Writing
pub mod Replies
pub mod Verifying
pub mod Promising
pub mod Speaking
pub mod Finishing
pub mod Forming
mod Examples
