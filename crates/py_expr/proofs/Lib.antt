pub mod Alone
pub mod Calls
pub mod Ends
pub mod Fronts
pub mod Nestings
pub mod OneAnswer
pub mod Texts
pub mod Marks
