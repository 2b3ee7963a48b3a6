pub mod Boards
pub mod Books
pub mod Posts
pub mod Readings
