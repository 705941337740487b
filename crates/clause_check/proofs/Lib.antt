mod Examples
pub mod Meaning
pub mod Spans
pub mod Supposed
