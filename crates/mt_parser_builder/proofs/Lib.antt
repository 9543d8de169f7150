pub mod Taking
pub mod Walking
pub mod Failing
pub mod Grown
pub mod Made
pub mod Numbers
pub mod Whole
pub mod Few
