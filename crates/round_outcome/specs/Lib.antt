pub mod Outcome
pub mod Closed
pub mod Statements
pub mod Example
