pub mod Crosses
pub mod Fields
pub mod Places
pub mod Sharing
pub mod Steps
pub mod Written
