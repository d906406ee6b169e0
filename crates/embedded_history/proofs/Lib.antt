pub mod Exact
pub mod Runs
pub mod Records
pub mod ThreeTurns
