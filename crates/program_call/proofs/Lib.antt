pub mod Judgement
pub mod Outcomes
pub mod Speaking
pub mod Promised
pub mod Ending
pub mod Replies
pub mod Reporting
pub mod Examples
pub mod Answering
pub mod Calling
pub mod ExamplesAnswer
mod ExamplesCall
mod ExamplesPromise
