pub mod FrontLaws
pub mod SinkWalkLaws
pub mod GateLaws
pub mod LoweringLaws
pub mod ArcPointLaws
pub mod WalkLaws
pub mod FlowValueLaws
pub mod TrailLaws
pub mod RouteLaws
mod NearSideLaws
mod SmallestSetLaws
mod LookupLaws
mod MarkLaws
mod OpenWalkLaws
mod WalkFlowLaws
mod RoutePointLaws
mod PointOrderLaws
mod VisitLaws
mod StepLaws
mod CapacityLaws
mod NearSetLaws
pub mod AppendLaws
