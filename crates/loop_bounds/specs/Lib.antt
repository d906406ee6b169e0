pub mod Methods
pub mod Nexts
pub mod Found
pub mod Graphs
pub mod Listings
pub mod Tables
