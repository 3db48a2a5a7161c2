pub mod UpperRules
