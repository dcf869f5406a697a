pub mod DeliveryLemmas
pub mod DeskLemmas
pub mod StreamLemmas
pub mod DeterminedLemmas
pub mod FillingLemmas
