pub mod Held
pub mod Exports
