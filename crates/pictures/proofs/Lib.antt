pub mod LabelLaws
pub mod NameLaws
pub mod TextLaws
pub mod LookLaws
pub mod MarkLaws
pub mod ViewLaws
pub mod SearchLaws
