mod Done
mod Journals
