pub mod OneStream
pub mod Versions
