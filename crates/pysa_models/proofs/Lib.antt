pub mod Together
pub mod Lists
pub mod Rising
pub mod Printed
pub mod Places
