pub mod Names
pub mod Plain
pub mod Grammar
pub mod Verdict
pub mod OneAnswer
pub mod Neighbours
pub mod NoForms
