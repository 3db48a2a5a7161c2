pub mod SpanItems
