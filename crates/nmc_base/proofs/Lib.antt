pub mod HexDigits
pub mod TruthLemmas
pub mod ListLemmas
pub mod OptionLemmas
pub mod DueHeights
