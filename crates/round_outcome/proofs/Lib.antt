mod Members
mod Tags
mod Merge
pub mod Handed
mod SmallRound
