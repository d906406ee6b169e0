pub mod Classes
pub mod Numbers
pub mod Answers
pub mod Texts
