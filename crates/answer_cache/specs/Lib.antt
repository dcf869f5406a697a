pub mod Cached
pub mod KeyLaws
pub mod Keys
pub mod Lend
pub mod Marks
