-- `sum` meets its contract: the bytes of a short row, or the four parts, each behind those before, and the last bytes make up the
-- register of the whole row.
-- Rests on the laws of registers of parts.
use mathlib.Core.Path.{◌≡◌, sym, ap, ap₂, ◌∙◌}
use mathlib.Core.List.{List}
use Prim.Native.Nat.{ℕ, ◌+◌, ◌-◌, ◌*◌, ◌/◌, ◌≤◌, ◌<◌, ◌^◌}
use native.Mathlib.Omega.{arith}
use lib.Bits.{bit_xor}
use lib.ListN.{length}
use Rattle.sums.specs.declared.Registers.{Registers}
use Rattle.sums.specs.Crc.{ones, shifted_by, register, sum_of}
use Rattle.sums.specs.inner.Moves.{highest, moved_to, register_from}
use Rattle.sums.specs.inner.Parts.{InParts}
use Rattle.sums.proofs.Parted.{none_in, more_in, whole, behind_in_lem}
use Rattle.sums.proofs.sum.Goals as goal

module _ (bs : List ℕ) (m : ℕ) (p : Registers) (k : ℕ) (i : InParts bs m p) (e : k ≡ shifted_by (8 * m) highest) where
  -- x is what two parts make, one behind the other
  abbrev Joined : ℕ → ℕ → ℕ → Type 0
  Joined x y z = (z ≡ bit_xor (moved_to x k 32) y) × (x < 2 ^ 32)

  four_parts : (two three four : ℕ) → Joined p.0 p.1 two → Joined two p.2 three → Joined three p.3 four →
      four ≡ register_from bs 0 ones (4 * m)
  four_parts two three four f g h =
      let s : m + m ≡ 2 * m = omega arith in
      let t : 2 * m + m ≡ 3 * m = omega arith in
      let u : 3 * m + m ≡ 4 * m = omega arith in
      let a : two ≡ register_from bs 0 ones (2 * m) =
      behind_in_lem bs m m p.0 p.1 k two f.1 i.first i.second e f.0 ∙ ap (register_from bs 0 ones) s in
      let b : three ≡ register_from bs 0 ones (3 * m) =
      behind_in_lem bs (2 * m) m two p.2 k three g.1 a i.third e g.0 ∙ ap (register_from bs 0 ones) t in
      behind_in_lem bs (3 * m) m three p.3 k four h.1 b i.fourth e h.0 ∙ ap (register_from bs 0 ones) u

-- and the bytes behind them
all_in : (bs : List ℕ) (n r x : ℕ) → n ≤ length bs → r ≡ register_from bs 0 ones n → x ≡ register_from bs n r (length bs - n) →
    x ≡ register bs (length bs)
all_in bs n r x l p q =
    let s : 0 + n ≡ n = omega arith in
    let t : n + (length bs - n) ≡ length bs = omega arith in
    q
    ∙ ap₂ (λ i y. register_from bs i y (length bs - n)) (sym s) p
    ∙ sym (more_in bs 0 ones n (length bs - n))
    ∙ ap (register_from bs 0 ones) t
    ∙ sym (whole bs (length bs))

pub returns-then-bytes-lt-LONG : goal.returns-then-bytes-lt-LONG
unfolding sum_of
returns-then-bytes-lt-LONG c =
    let bs = c.args.bytes.now in
    ap (λ x. bit_xor x ones) (all_in bs 0 ones c.rest.result (omega arith) (none_in bs 0 ones) c.rest.ensures)

pub returns : goal.returns
unfolding sum_of
returns c =
    let three = c.before in
    let two = three.before in
    let one = two.before in
    let k = one.before in
    let p = k.before in
    let bs = p.args.bytes.now in
    let m = length bs / 4 in
    let f =
    four_parts bs m p.parts-p.result k.far-k.result p.parts-p.ensures k.far-k.ensures one.behind-two.result
    two.behind-three.result three.behind-four.result one.behind-two.ensures two.behind-three.ensures three.behind-four.ensures in
    ap (λ x. bit_xor x ones) (all_in bs (4 * m) three.behind-four.result c.rest-2.result (omega arith) f c.rest-2.ensures)
