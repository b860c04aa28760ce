pub mod Behind
pub mod Reading
