pub mod Acceptance
pub mod Answers
pub mod Figures
pub mod Growing
pub mod ReadBack
pub mod Same
