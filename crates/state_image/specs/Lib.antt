pub mod Versioned
pub mod Queueing
pub mod Standing
pub mod Turning
pub mod Registering
pub mod Forming
pub mod Answers
pub mod Loading
