pub mod DraftLemmas
pub mod SelectionLemmas
pub mod DamageLaws
pub mod AppendingLemmas
pub mod CountLemmas
