pub mod Dumping
pub mod Serving
pub mod Making
pub mod Starting
pub mod Playing
pub mod SelfTest
pub mod Words
pub mod WrongWords
