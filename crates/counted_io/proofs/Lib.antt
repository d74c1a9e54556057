pub mod ResultLaws
pub mod OutputLaws
pub mod BufferedLaws
pub mod InputLaws
