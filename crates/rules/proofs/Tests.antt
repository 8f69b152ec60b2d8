-- Laws of tests: what `both`, `either` and `pick` say, taken apart and put together.
-- Rest on nothing but the definitions.
use mathlib.Core.Path.{◌≡◌, refl}
use mathlib.Core.Bool.{Bool, true, false, false≢true, ◌&&◌}
use mathlib.Core.Logic.{◌⊎◌, inl, inr}
use Rattle.rules.specs.Limits.{both, either}
use Rattle.rules.specs.Refusals.{pick}

pub decide : (a : Bool) → (a ≡ true) ⊎ (a ≡ false)
decide true = inl refl
decide false = inr refl

pub both_l : (a b : Bool) → both a b ≡ true → a ≡ true
both_l true b h = refl
both_l false b h = h

pub both_r : (a b : Bool) → both a b ≡ true → b ≡ true
both_r true b h = h
both_r false b h = absurd (false≢true h)

pub both_in : (a b : Bool) → a ≡ true → b ≡ true → both a b ≡ true
both_in a b p q = rw (p, q) refl

-- a test joined with one that passes is itself
pub both_true : (b : Bool) → both b true ≡ b
both_true true = refl
both_true false = refl

-- and joined with one that fails it fails
pub both_none : (b : Bool) → both b false ≡ false
both_none true = refl
both_none false = refl

-- the language's own joining is the definition's
pub and_both : (a b : Bool) → (a && b) ≡ both a b
and_both true b = refl
and_both false b = refl

pub either_l : (a b : Bool) → a ≡ true → either a b ≡ true
either_l a b p = rw p refl

pub either_r : (a b : Bool) → b ≡ true → either a b ≡ true
either_r true b p = refl
either_r false b p = p

pub either_out : (a b : Bool) → either a b ≡ true → (a ≡ true) ⊎ (b ≡ true)
either_out true b h = inl refl
either_out false b h = inr h

pub either_false : (a b : Bool) → a ≡ false → b ≡ false → either a b ≡ false
either_false a b p q = rw (p, q) refl

pub either_false_l : (a b : Bool) → either a b ≡ false → a ≡ false
either_false_l true b h = h
either_false_l false b h = refl

pub either_false_r : (a b : Bool) → either a b ≡ false → b ≡ false
either_false_r true b h = absurd (false≢true (mathlib.Core.Path.sym h))
either_false_r false b h = h

-- two tests that pass at the same time are one
pub same : (a b : Bool) → (a ≡ true → b ≡ true) → (b ≡ true → a ≡ true) → a ≡ b
same true true f g = refl
same true false f g = absurd (false≢true (f refl))
same false true f g = absurd (false≢true (g refl))
same false false f g = refl

-- a test that cannot pass fails
pub fails : (a : Bool) → (a ≡ true → ⊥) → a ≡ false
fails true f = absurd (f refl)
fails false f = refl

pub pick_true : {A : Type 0} (t : Bool) (a b : A) → t ≡ true → pick t a b ≡ a
pick_true t a b p = rw p refl

pub pick_false : {A : Type 0} (t : Bool) (a b : A) → t ≡ false → pick t a b ≡ b
pick_false t a b p = rw p refl
