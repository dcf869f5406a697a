pub mod HeadFaults
pub mod ValueFaults
pub mod RunLaws
pub mod FaultLaws
pub mod FaultRows
pub mod DamageLemmas
