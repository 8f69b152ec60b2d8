-- `put_header` meets its contract: letters, identity and numbers, and behind them the sum of what stands in the room by then.
use native.Mathlib.Omega.{arith}
use mathlib.Core.Path.{sym, ap, ◌∙◌}
use lib.ListN.{length}
use lib.Seq.{sets, length-take-le, length-sets}
use Rattle.notice_fields.specs.Numbers.{big_endian}
use Rattle.journal_records.specs.Header.{header_word, origin_bytes}
use Rattle.journal_records.proofs.HeaderLaid.{summed_laid, summed_there, header_laid, odd_identity, short_room, header_put}
use Rattle.journal_records.proofs.headers.put_header.Goals as goal

pub returns-then-identity-ne-IDENTITY : goal.returns-then-identity-ne-IDENTITY
returns-then-identity-ne-IDENTITY c = odd_identity _ _ _ c.if-identity-ne-IDENTITY.true

pub returns-then-room-lt-SIZE : goal.returns-then-room-lt-SIZE
returns-then-room-lt-SIZE c = short_room _ _ _ c.if-identity-ne-IDENTITY.false c.if-room-lt-SIZE.true

pub slice_bounds-sum-end-2 : goal.slice_bounds-sum-end-2
slice_bounds-sum-end-2 c =
    let numbers = c in
    let laid = numbers in
    let letters = laid in
    let long = letters in
    let a = long.args in
    let l1 = sets a.room.now 0 (big_endian 8 header_word) in
    let l2 = sets l1 8 a.identity.now in
    let same = ap length (numbers.put_origin.ensures ∙ ap (λ l. sets l 24 (origin_bytes a.origin)) (laid.lay.ensures ∙ ap (λ l. sets l 8 a.identity.now) letters.put.ensures)) in
    sym (length-take-le 60 numbers.put_origin.new.room
    (omega (arith, same, length-sets l2 24 (origin_bytes a.origin), length-sets l1 8 a.identity.now, length-sets a.room.now 0 (big_endian 8 header_word), long.if-room-lt-SIZE.false)))

pub returns : goal.returns
returns c =
    let put = c in
    let summing = put in
    let numbers = summing in
    let laid = numbers in
    let letters = laid in
    let long = letters in
    let a = long.args in
    let is = long.if-identity-ne-IDENTITY.false in
    rw (
      put.put-2.ensures,
      summing.sum-total.ensures,
      numbers.put_origin.ensures,
      laid.lay.ensures,
      letters.put.ensures,
      summed_laid a.identity.now a.origin is a.room.now long.if-room-lt-SIZE.false,
      summed_there a.identity.now a.origin is a.room.now long.if-room-lt-SIZE.false,
      header_laid a.identity.now a.origin is a.room.now long.if-room-lt-SIZE.false,
    )
    (header_put _ _ _ is long.if-room-lt-SIZE.false)
