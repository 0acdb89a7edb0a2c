pub mod Crossing
pub mod ProxyLemmas
