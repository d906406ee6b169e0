pub mod Held
pub mod Placing
pub mod Stored
