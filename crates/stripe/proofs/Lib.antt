pub mod Sound
pub mod Stored
pub mod Ends
pub mod Fresh
pub mod Keeps
