pub mod Lookups
pub mod Reading
pub mod Ends
pub mod Copying
