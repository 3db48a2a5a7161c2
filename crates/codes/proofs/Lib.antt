pub mod NoKind
