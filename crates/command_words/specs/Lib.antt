pub mod Words
pub mod Reading
pub mod Command
pub mod Views
