-- What is written of a box, by what is told of its beginning: the three ways of `box_text`. Rests on `now_exactly`.
use mathlib.Core.Path.{◌≡◌, refl, sym, ◌∙◌}
use mathlib.Core.Bool.{true, false}
use mathlib.Core.List.{List, []}
use Prim.Native.Nat.{ℕ}
use borrow.Author.Tests.{eq-eqb, ne_eqb}
use Rattle.rules.specs.Refusals.{done}
use Rattle.notice.specs.Log.{Bytes}
use Rattle.agent.specs.Played.{life_in}
use Rattle.playouts.specs.Lines.{refused_line}
use Rattle.log_boxes.specs.declared.Beginning.{Beginning}
use Rattle.log_boxes.specs.Box.{box_answer, is_box_start, box_picture, box_text, is_now, BeginsAt}
use Rattle.log_boxes.proofs.Standing.{tick_some}
use Rattle.log_boxes.proofs.Beginnings.{now_exactly}

module _ (pool : ℕ) (log : List ℕ) (title x : ℕ) where
  module _ (small : Bytes log) (r : Beginning) (w : BeginsAt pool log title x r) (ok : r.answer ≡ done) where
    granted_too : box_answer pool log title x ≡ done
    granted_too = sym w.answers ∙ ok

    exactly : is_now r x ≡ is_box_start (life_in pool log title) x
    exactly =
        now_exactly (life_in pool log title) (tick_some pool log title x small granted_too) x r (w.waits_from ok) (w.lets_in_holds ok) (λ h. (w.turned_away ok h).0)

    pub begins_text : is_now r x ≡ true → box_picture pool log title x ≡ box_text pool log title x
    unfolding box_text
    begins_text h = rw (eq-eqb _ _ granted_too, sym exactly ∙ h) refl

    pub waits_text : is_now r x ≡ false → [] ≡ box_text pool log title x
    unfolding box_text
    waits_text h = rw (eq-eqb _ _ granted_too, sym exactly ∙ h) refl

  pub refused_text : (r : Beginning) → BeginsAt pool log title x r → (r.answer ≡ done → ⊥) → refused_line r.answer ≡ box_text pool log title x
  unfolding box_text
  refused_text r w off = rw (← w.answers, ne_eqb _ _ off) refl
