pub mod Standing
pub mod Reads
pub mod Seen
pub mod Leaving
pub mod Picking
pub mod Operands
pub mod Windowed
