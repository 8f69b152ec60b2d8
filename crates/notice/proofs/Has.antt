-- That bytes stand at a place, and numbers from their bytes, as `notice_fields` has it.
pub use Rattle.notice_fields.proofs.Has.{Has, has_left, has_right, has_both, has_middle, has_part, big_at, number_back, bytes_back}
