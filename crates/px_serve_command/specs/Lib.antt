pub mod Endings
pub mod Proxies
