pub mod Boxes
pub mod Requests
pub mod Recording
pub mod Given
pub mod Texts
pub mod Calls
pub mod Reading
