pub mod AddressLemmas
pub mod HeldLemmas
pub mod ListedLemmas
pub mod ReadingLemmas
pub mod SlotLemmas
pub mod WordLemmas
