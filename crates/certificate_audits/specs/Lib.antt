pub mod Ends
pub mod Audits
pub mod Findings
pub mod Replays
pub mod Laws
pub mod Parts
