mod ArrayLaws
mod PutLaws
mod MergedLaws
pub mod PlainLaws
mod Examples
pub mod MergedLineLaws
mod CountLaws
