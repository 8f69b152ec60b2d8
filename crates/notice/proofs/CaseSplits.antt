-- Going by cases, as `notice_fields` has it.
pub use Rattle.notice_fields.proofs.Each.{by_order, false_true}
