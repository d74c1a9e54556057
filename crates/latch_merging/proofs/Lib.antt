pub mod StartLaws
pub mod MisreadLaws
