pub mod Listed
pub mod Ring
