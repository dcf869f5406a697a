pub mod Carried
pub mod Agreeing
pub mod Blocks
pub mod Causes
pub mod Lengths
