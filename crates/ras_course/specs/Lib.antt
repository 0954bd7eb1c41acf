pub mod Courses
pub mod Steps
