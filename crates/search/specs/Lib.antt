pub mod Below
pub mod Firsts
