mod Fronts
pub mod OneAnswer
pub mod OneReading
