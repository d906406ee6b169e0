pub mod Seen
pub mod Numbers
pub mod After
pub mod Starts
pub mod Followed
pub mod Orders
pub mod Passes
pub mod Points
