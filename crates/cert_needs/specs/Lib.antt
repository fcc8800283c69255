pub mod Wanted
pub mod Exclusions
pub mod Cover
pub mod Forms
pub mod Serving
