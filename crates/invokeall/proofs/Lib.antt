pub mod Members
pub mod Turns
mod PutOff
pub mod Rows
pub mod Worked
pub mod Homes
mod OneSeat
