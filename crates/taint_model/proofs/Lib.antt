pub mod TreeFacts
pub mod PutFacts
pub mod PutJoins
pub mod PutReads
pub mod ListFacts
pub mod RoomFacts
pub mod ModelFacts
