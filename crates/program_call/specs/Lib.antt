pub mod Numbers
pub mod Answer
pub mod Ended
pub mod Wordless
pub mod Promise
pub mod Reporter
pub mod Program
pub mod Call
