pub mod Views
pub mod Keeping
pub mod Making
pub mod Picks
pub mod Listing
pub mod Ranking
