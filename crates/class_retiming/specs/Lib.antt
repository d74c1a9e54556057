pub mod Answered
