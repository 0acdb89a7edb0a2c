pub mod AddressLemmas
pub mod TurnLemmas
pub mod GuestLemmas
