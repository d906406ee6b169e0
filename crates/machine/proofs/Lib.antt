pub mod Bounded
pub mod Begun
pub mod Counted
