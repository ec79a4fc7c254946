pub mod Exact
pub mod Fields
pub mod Numbers
pub mod Texts
pub mod Alone
pub mod Shown
pub mod Reckoned
