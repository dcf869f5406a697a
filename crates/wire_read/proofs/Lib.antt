pub mod Forms
pub mod Sizes
pub mod FrontLaws
pub mod ManyLaws
