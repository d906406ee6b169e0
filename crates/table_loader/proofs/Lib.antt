mod Ordered
mod Found
mod Kept
mod Lengths
