pub mod Text
pub mod Order
pub mod Report
pub mod Page
pub mod Counts
