pub mod FactLemmas
pub mod FaultLemmas
pub mod UsageLemmas
pub mod UseLemmas
