pub mod Totals
pub mod Times
mod Draws
mod Shares
