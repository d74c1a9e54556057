pub mod AskingLaws
pub mod ClashLaws
pub mod ListLaws
