pub mod Listing
pub mod Explaining
