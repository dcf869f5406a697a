pub mod Faults
pub mod Selections
pub mod Slotted
pub mod Damage
pub mod Drafted
pub mod Answers
pub mod Calls
