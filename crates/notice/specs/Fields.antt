-- The field table, as `notice_fields` has it: what callers of this crate name of it.
unfoldable pub use Rattle.notice_fields.specs.Fields.{table, span_of, start_of}
pub use Rattle.notice_fields.specs.Fields.{length_of, is_known, longest_notice, close_kind}
