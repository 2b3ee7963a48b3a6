pub mod Firsts
pub mod Inside
pub mod Never
pub mod Plain
