-- Laws of spelt numbers: growing a capped number by a digit caps the grown one, so that digits read one by one spell
-- their amount, whatever its size.
use Prim.Native.Nat.{ℕ, ◌+◌, ◌*◌, ◌-◌, ◌/◌, ◌<◌, ◌≤◌, min}
use mathlib.Core.Path.{◌≡◌, refl}
use mathlib.Core.Bool.{Bool, true, false}
use mathlib.Core.List.{List, [], ◌∷◌}
use native.Mathlib.Omega.{arith}
use native.Mathlib.Numerals.{add-one}
use borrow.Author.Tests.{lt-ltb, le-ltb, ltb-true, ltb-false}
use lib.ListN.{length, get_or, drop, drop_of_length-le}
use lib.Seq.{drop-cons}
use lib.Dec.{ltb}
use Rattle.rules.specs.Refusals.{pick}
use Rattle.text.specs.declared.numbers.Number.{Number}
use Rattle.text.specs.Bytes.{digit, digit_of}
use Rattle.text.specs.Numbers.{top, amount, capped, grow}

-- the two ways out of `grow`
pub grow_over : (n : Number) (b d : ℕ) → d ≡ digit_of b → d < 256 → (top - d) / 10 < n.value
    → record { value = top; over = true } ≡ grow n b
unfolding grow
grow_over n b d e h l =
    let full : top < 10 * n.value + digit_of b = omega arith in
    let held : min (10 * n.value + digit_of b) top ≡ top = omega arith in
    rw (held, lt-ltb _ _ full)

pub grow_in : (n : Number) (b d : ℕ) → d ≡ digit_of b → d < 256 → n.value ≤ (top - d) / 10
    → record { value = 10 * n.value + d; over = n.over } ≡ grow n b
unfolding grow
grow_in n b d e h l =
    let fits : 10 * n.value + digit_of b ≤ top = omega arith in
    let held : min (10 * n.value + digit_of b) top ≡ 10 * n.value + digit_of b = omega arith in
    rw (held, le-ltb _ _ fits, e)

-- digits read one by one into a number that is held at most at top
unfoldable pub spell : Number → List ℕ → Number
spell n [] = n
spell n (b ∷ s) = pick (digit b) (spell (grow n b) s) n

same_number : {a b : ℕ} {o p : Bool} → a ≡ b → o ≡ p
    → ◌≡◌ {A = Number} (record { value = a; over = o }) (record { value = b; over = p })
same_number e f = rw (e, f)

pick_itself : (t : Bool) → pick t true false ≡ t
pick_itself true = refl
pick_itself false = refl

over_capped : (v d : ℕ) (t : Bool) → ltb top v ≡ t → pick (ltb top (10 * min v top + d)) true t ≡ ltb top (10 * v + d)
over_capped v d true e =
    let big : top < v = ltb-true _ _ e in
    let first : top < 10 * min v top + d = omega arith in
    let whole : top < 10 * v + d = omega arith in
    rw (lt-ltb _ _ first, lt-ltb _ _ whole)
over_capped v d false e =
    let small : v ≤ top = ltb-false _ _ e in
    let held : min v top ≡ v = omega arith in
    rw held (pick_itself _)

grow_capped : (v b : ℕ) → grow (capped v) b ≡ capped (10 * v + digit_of b)
unfolding grow capped
grow_capped v b = same_number (omega arith) (over_capped v (digit_of b) _ refl)

after_digit : (v b : ℕ) (s : List ℕ) (t : Bool)
    → spell (capped (10 * v + digit_of b)) s ≡ capped (amount (10 * v + digit_of b) s)
    → pick t (spell (grow (capped v) b) s) (capped v) ≡ capped (pick t (amount (10 * v + digit_of b) s) v)
after_digit v b s true e = rw grow_capped e
after_digit v b s false e = refl

-- digits read one by one spell their amount
pub spells : (v : ℕ) (s : List ℕ) → spell (capped v) s ≡ capped (amount v s)
unfolding amount spell
spells v [] = refl
spells v (b ∷ s) = after_digit v b s (digit b) (spells (10 * v + digit_of b) s)

-- a turn of the reading loop, and its two ways out
module _ (n : Number) (s : List ℕ) (i : ℕ) where
  pub spell_on : i < length s → digit (get_or s i 0) ≡ true
      → spell (grow n (get_or s i 0)) (drop (i + 1) s) ≡ spell n (drop i s)
  unfolding spell
  spell_on h e = rw (drop-cons s i 0 h, e, add-one)

  pub spell_stop : i < length s → digit (get_or s i 0) ≡ false → n ≡ spell n (drop i s)
  unfolding spell
  spell_stop h e = rw (drop-cons s i 0 h, e)

  pub spell_end : length s ≤ i → n ≡ spell n (drop i s)
  unfolding spell
  spell_end h = rw (drop_of_length-le s h)
