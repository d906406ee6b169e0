pub mod Conversation
pub mod Statements
pub mod Example
