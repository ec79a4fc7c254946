pub mod Records
pub mod Answers
pub mod Rows
pub mod Searches
pub mod Orders
pub mod Fillings
