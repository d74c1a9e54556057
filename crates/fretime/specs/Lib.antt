pub mod Reporting
pub mod Batches
pub mod Answers
pub mod Runs
pub mod Explaining
