pub mod Shared
pub mod CoverRows
pub mod Indexes
