-- `notice_cases::survives`: the room is long enough for any notice, the part that is read is what was written, and what is written
-- reads back, since a notice that code holds fits its fields.
use mathlib.Core.Path.{◌≡◌, sym, ap, ◌∙◌}
use mathlib.Core.List.{List, ◌++◌}
use Prim.Native.Nat.{ℕ, ◌≤◌}
use native.Mathlib.Omega.{arith}
use borrow.Author.Tests.{le-ltb}
use lib.ListN.{length, take, drop}
use lib.Seq.{length-take-le, take-append_seam}
use Rattle.notice.specs.declared.Notice.{Notice}
use Rattle.notice.specs.Fields.{table, start_of, span_of}
use Rattle.notice.specs.Encode.{bytes_of, Writes}
use Rattle.notice.specs.Decode.{read_of}
use Rattle.notice.proofs.Held.{held}
use Rattle.notice.proofs.RoundTrip.{written_reads}
use Rattle.notice.proofs.Worked.{open_length, none_longer}
use Rattle.notice_cases.proofs.survives.Goals as goal

-- in a room that is long enough, the first bytes are the notice's
first : (n : Notice) (room after : List ℕ) {a : ℕ} → length (bytes_of n) ≤ length room → Writes n room a after
    → take (length (bytes_of n)) after ≡ bytes_of n
first n room after enough w =
    let whole : after ≡ bytes_of n ++ drop (length (bytes_of n)) room = w.leaves ∙ simp (le-ltb _ _ enough) in
    rw whole (take-append_seam (bytes_of n) (drop (length (bytes_of n)) room))

-- any notice fits the room of the longest
pub slice_bounds-room-end : goal.slice_bounds-room-end
slice_bounds-room-end c = omega (arith, c.size-size.ensures, c.write.auto.room, none_longer c.args.n, open_length)

pub slice_bounds-read-end : goal.slice_bounds-read-end
slice_bounds-read-end c =
    sym (length-take-le _ _ (omega (arith, c.size-size.ensures, c.write.auto.room, none_longer c.args.n, open_length)))

pub returns : goal.returns
unfolding table start_of span_of
returns c =
    let n = c.args.n in
    let part = first n _ c.write.new.room (none_longer n) c.write.ensures in
    c.read.ensures.is
    ∙ (ap read_of (rw c.size-size.ensures part) ∙ written_reads n (held n _ c.well_formed.0))
