pub mod InlineLemmas
pub mod KeyLemmas
pub mod NumberingLemmas
pub mod OrderLemmas
