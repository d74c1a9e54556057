pub mod SideLaws
pub mod GateSumLaws
pub mod BalanceLaws
pub mod ShownLaws
pub mod NearLaws
mod TallyLaws
mod MarkLaws
mod OffLaws
mod FrameLaws
mod PlaceLaws
