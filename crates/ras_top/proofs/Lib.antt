mod Answered
mod Due
mod Programs
