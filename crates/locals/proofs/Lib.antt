pub mod ByPages
pub mod Compared
pub mod Writing
pub mod Blank
pub mod Same
