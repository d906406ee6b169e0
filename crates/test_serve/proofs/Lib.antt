pub mod Read
pub mod Gathered
pub mod Rounds
pub mod OneStream
mod Versions
