pub mod Listing
pub mod Sessions
pub mod Pinned
pub mod Pages
