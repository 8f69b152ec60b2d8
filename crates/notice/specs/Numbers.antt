-- Big-endian numbers, as `notice_fields` has them.
unfoldable pub use Rattle.notice_fields.specs.Numbers.{big_endian, number_at}
