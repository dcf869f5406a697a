pub mod MachineLemmas
mod ServingLemmas
pub mod CodeLemmas
pub mod BridgedLemmas
pub mod DoneLemmas
pub mod FileLemmas
pub mod TurnLemmas
mod CommandTurns
pub mod RunLemmas
pub mod ReachedLemmas
pub mod QueryingLemmas
pub mod AnsweringLemmas
pub mod DeterminedLemmas
pub mod OpeningLemmas
