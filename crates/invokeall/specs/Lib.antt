pub mod Buffers
pub mod Collected
pub mod Groups
pub mod Jobs
pub mod Rounds
pub mod Tasks
pub mod Workers
