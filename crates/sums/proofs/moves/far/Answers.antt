-- `far` meets its contract. The invariant: k is where the highest bit comes to by as many bytes as the bits passed spell.
-- Rests on the laws of moves.
use Prim.Native.Nat.{ℕ, suc, ◌+◌, ◌-◌, ◌*◌, ◌/◌, ◌%◌, ◌<◌, ◌^◌}
use mathlib.Core.Path.{◌≡◌, refl, sym, ap, ◌∙◌}
use native.Mathlib.Omega.{arith}
use native.Mathlib.Nat.{div-eq_of_lt, div-div-eq-div-mul, div-one, mod-lt}
use Rattle.sums.specs.Crc.{shifted_by}
use Rattle.sums.specs.inner.Moves.{highest, moved_to}
use Rattle.sums.proofs.moves.Linear.{by_add}
use Rattle.sums.proofs.moves.Bits.{moved_by}
use Rattle.sums.proofs.moves.far.Goals as goal

-- no byte yet, and one bit more of their number
start : (n b : ℕ) → n < 2 ^ b → highest ≡ shifted_by (8 * (n / 2 ^ b)) highest
unfolding shifted_by
start n b l = rw (div-eq_of_lt l) refl

step : (n l k s z : ℕ) → 0 < l → k ≡ shifted_by (8 * (n / 2 ^ l)) highest → k < 2 ^ 32 → s ≡ moved_to k k 32 →
    z ≡ shifted_by (8 * (n / 2 ^ (l - 1) % 2)) s → z ≡ shifted_by (8 * (n / 2 ^ (l - 1))) highest
step n l k s z p e small f g =
    let q : ℕ = n / 2 ^ (l - 1) in
    let t : suc (l - 1) ≡ l = omega arith in
    let d : 2 ^ (l - 1) * 2 ≡ 2 ^ suc (l - 1) = omega arith in
    let h : n / 2 ^ l ≡ q / 2 = sym (div-div-eq-div-mul n (2 ^ (l - 1)) 2 ∙ ap (λ m. n / m) (d ∙ ap (λ i. 2 ^ i) t)) in
    let m : ℕ = 8 * (q / 2) in
    let i : k ≡ shifted_by m highest = e ∙ ap (λ x. shifted_by (8 * x) highest) h in
    let j : s ≡ shifted_by (m + m) highest =
    f ∙ ap (λ x. moved_to k x 32) i ∙ moved_by k m small ∙ ap (shifted_by m) i ∙ by_add m m highest in
    let o : 8 * (q % 2) + (m + m) ≡ 8 * q = omega arith in
    g ∙ ap (shifted_by (8 * (q % 2))) j ∙ by_add (8 * (q % 2)) (m + m) highest ∙ ap (λ x. shifted_by x highest) o

pub loop-left-init : goal.loop-left-init
loop-left-init c = start c.args.bytes c.bits_of-left.result c.bits_of-left.ensures.0

pub with_zero-k-requires : goal.with_zero-k-requires
with_zero-k-requires c = mod-lt (c.args.bytes / 2 ^ (c.loop-left.left - 1)) (omega arith)

pub loop-left-preserved : goal.loop-left-preserved
loop-left-preserved c =
    let m = c.before in
    let l = m.loop-left in
    let a = m.args in
    step a.bytes l.left l.k m.moved.result _ m.loop-left-test.true l.invariant m.moved.ensures.1 m.moved.ensures.0
    c.with_zero-k.ensures

pub returns : goal.returns
returns c =
    let l = c.loop-left in
    let a = c.args in
    let e : l.left ≡ 0 = omega (arith, c.loop-left-test.false) in
    l.invariant ∙ ap (λ i. shifted_by (8 * (a.bytes / 2 ^ i)) highest) e ∙ ap (λ n. shifted_by (8 * n) highest) (div-one a.bytes)
