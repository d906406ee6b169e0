pub mod Rounds
pub mod Served
pub mod Settings
pub mod Devices
pub mod Kept
pub mod CutShort
pub mod Classes
