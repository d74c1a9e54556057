pub mod MovedOn
