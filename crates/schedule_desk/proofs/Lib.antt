pub mod Foundings
pub mod MadeLaws
