pub mod Fitting
pub mod Same
