pub mod HeadLemmas
pub mod MeterLemmas
pub mod ResponseLemmas
