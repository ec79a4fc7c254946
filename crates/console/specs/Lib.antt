pub mod Content
pub mod Grammar
pub mod Jobs
pub mod Programs
pub mod Replies
pub mod Sessions
