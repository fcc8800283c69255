pub mod Lists
pub mod Embeds
pub mod Places
pub mod Orders
