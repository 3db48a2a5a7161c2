-- Rows of segments: what they say is defined beside the plain way of writing them.
unfoldable pub use Rattle.plain_rows.specs.Rows.{slice_rows}
