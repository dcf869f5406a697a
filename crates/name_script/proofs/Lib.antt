pub mod Pushes
pub mod NameScripts
