pub mod OneByOne
pub mod Settled
pub mod Statements
pub mod Example
