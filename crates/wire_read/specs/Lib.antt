pub mod Position
pub mod SizeForm
pub mod Fields
pub mod Seen
pub mod Front
