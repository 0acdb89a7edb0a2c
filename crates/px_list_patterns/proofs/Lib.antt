pub mod DottedLemmas
pub mod SectionLemmas
