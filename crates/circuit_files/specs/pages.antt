-- Pages of faults, and hints about a file that is refused.
pub mod Faults
pub mod Files
pub mod Lines
pub mod Nearest
pub mod Pages
pub mod HintedLines
pub mod Messages
