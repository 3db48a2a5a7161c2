pub mod SpanNumbers
