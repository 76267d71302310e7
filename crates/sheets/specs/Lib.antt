pub mod Sheets
pub mod Numbers
pub mod Judging
