pub mod Runs
pub mod Checked
pub mod Sound
pub mod Example
pub mod Accepted
pub mod Promise
pub mod ExampleBytes
pub mod Counting
