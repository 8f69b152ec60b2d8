-- The rows keep their lengths.
use Rattle.std.proofs.Common.{◌≡◌, length}
use Rattle.journal_starts.proofs.renewing.renew_all.Given as goal

abbrev pub invariant-loop : goal.invariant-loop
invariant-loop l = (length l.row ≡ length l.initial.row) × ((length l.room ≡ 65536) × (length l.sums ≡ 10080))
