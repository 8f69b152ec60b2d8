-- A step on a buffer at a place that is decided is the step on the log: what is found is the same, counted further on.
-- Rests on the definitions alone; `notice` proofs/Windows says that the buffer has what the log has.
use mathlib.Core.Path.{◌≡◌, refl}
use mathlib.Core.List.{[]}
use Prim.Native.Nat.{ℕ, ◌+◌}
use Rattle.notice.specs.declared.Found.{Found}
use Rattle.notice.specs.declared.Found.TheVariants as found
use Rattle.notice.specs.Decode.{place_after, further}
use Rattle.notice.specs.Log.{is_notice, with_found}
use Rattle.agent.specs.declared.Agent.{Agent}
use Rattle.listing_io.specs.Step.{line_after}

pub same_line : (g : Agent) (d : ℕ) (f : Found) → line_after g f ≡ line_after g (further d f)
same_line g d (found.At n e) = refl
same_line g d found.End = refl
same_line g d found.Malformed = refl

pub same_notices : (d : ℕ) (f : Found) → with_found f [] ≡ with_found (further d f) []
same_notices d (found.At n e) = refl
same_notices d found.End = refl
same_notices d found.Malformed = refl

pub same_more : (d : ℕ) (f : Found) → is_notice f ≡ is_notice (further d f)
same_more d (found.At n e) = refl
same_more d found.End = refl
same_more d found.Malformed = refl

pub same_place : (d p : ℕ) (f : Found) → d + place_after f p ≡ place_after (further d f) (d + p)
same_place d p (found.At n e) = refl
same_place d p found.End = refl
same_place d p found.Malformed = refl
