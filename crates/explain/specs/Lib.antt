pub mod Costs
pub mod Circles
pub mod Listed
pub mod Explanation
