pub mod Truth
pub mod Rules
pub mod PlainRules
pub mod Policies
pub mod Holders
pub mod Steps
pub mod Goals
pub mod Verdicts
