pub mod Measured
pub mod Measuring
pub mod Returned
