pub mod ArrayReads
pub mod ArrayWrites
pub mod Placing
pub mod Words
