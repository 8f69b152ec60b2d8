-- What holds of every kind of the field table, as `notice_fields` has it.
pub use Rattle.notice_fields.proofs.Table.{by_kind}
