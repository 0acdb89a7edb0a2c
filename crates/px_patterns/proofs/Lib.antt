pub mod ExpressionLemmas
pub mod FaultLemmas
pub mod PatternLemmas
pub mod GlobLemmas
pub mod HostLemmas
pub mod ReadingLemmas
pub mod OptionLemmas
pub mod PlaceLemmas
pub mod UrlLemmas
pub mod Crossing
pub mod UrlLaws
pub mod EndLabelLemmas
pub mod FirstLabelLemmas
mod SlashLemmas
pub mod UnionLemmas
pub mod KeptLemmas
