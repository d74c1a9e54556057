pub mod Output
pub mod Input
pub mod Counted
pub mod Buffered
pub mod Line
pub mod ReadErrors
pub mod Fakes
pub mod Streams
