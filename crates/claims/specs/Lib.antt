pub mod Counters
pub mod Inside
pub mod Rule
pub mod Views
