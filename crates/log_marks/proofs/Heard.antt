-- A notice that was told to the agent of a row, by what it was answered.
use Prim.Native.Nat.{ℕ, ◌≤◌, ◌<◌}
use mathlib.Core.Path.{◌≡◌, sym, ap, ◌∙◌}
use mathlib.Core.Bool.{true, false}
use mathlib.Core.List.{List}
use borrow.Author.Tests.{eq-eqb, ne_eqb, le-leb, lt-leb}
use lib.Dec.{leb, eqb}
use Rattle.rules.specs.Limits.{both, id_max}
use Rattle.rules.specs.Refusals.{done}
use Rattle.notice.specs.declared.Notice.{Notice}
use Rattle.agent.specs.declared.Agent.{Agent}
use Rattle.agent_rows.specs.Packed.{unpacked}
use Rattle.row_calls.specs.inner.Steps.{TakesNotice}
use Rattle.text.specs.declared.page.Page.{Page}
use Rattle.text.specs.Pages.{Puts}
use Rattle.text.proofs.Pages.{told_as}
use Rattle.frames.specs.declared.bands.View.{View}
use Rattle.story.specs.declared.Title.{Title}
use Rattle.story.specs.declared.State.{State}
use Rattle.story.specs.Kept.{title_at}
use Rattle.strips.specs.declared.scale.Band.{Band}
use Rattle.marks.specs.Marks.{tick_text, tick_kept, tick_label_text, tick_label_kept}
use Rattle.curves.specs.Curves.{curve_text, curve_kept}
use Rattle.frames.specs.Bands.{band_of}
use Rattle.log_marks.specs.Hearing.{turn_marks, turn_kept}
use Rattle.log_marks.proofs.Threaded.{then_text, then_kept}
use Rattle.log_marks.specs.Hearing.{accepted_marks, accepted_kept, unheard_marks, unheard_kept, is_heard, notice_marks, notice_kept, Takes}

module _ (v : View) (kept : List ℕ) (n : Notice) (r x : List ℕ) where
  -- what is drawn, and what is kept, of a notice
  abbrev Drawing : Page → Page → List ℕ → Type 0
  Drawing p q k = (Puts p (notice_marks v (unpacked r) n kept) q) × ((k ≡ notice_kept v (unpacked r) n kept) × Takes r n x)

  takes : (a : ℕ) → TakesNotice r n a x → Takes r n x
  takes a told = record { agent_is = told.agent_is; is_row = told.is_row }

  pub heard_accepted : (was : List ℕ) (a : ℕ) → was ≡ r → TakesNotice r n a x → a ≡ 0 → n.title ≤ id_max → {p q : Page} (k : List ℕ) →
      Puts p (accepted_marks v kept (unpacked was).state (unpacked x).state n) q →
      k ≡ accepted_kept v kept (unpacked was).state (unpacked x).state n → Drawing p q k
  unfolding notice_marks notice_kept
  heard_accepted was a same told ok low k w e =
      let heard : is_heard (unpacked r) n ≡ true =
      ap (λ m. both (eqb m done) (leb n.title id_max)) (sym told.answers) ∙ rw (eq-eqb a 0 ok, le-leb n.title id_max low) in
      rw heard (
        told_as
            (
            ap (λ (l : List ℕ). accepted_marks v kept (unpacked l).state (unpacked x).state n) same
            ∙ ap (λ (g : Agent). accepted_marks v kept (unpacked r).state g.state n) told.agent_is
            )
            w,
        (
          e ∙ ap (λ (l : List ℕ). accepted_kept v kept (unpacked l).state (unpacked x).state n) same
              ∙ ap (λ (g : Agent). accepted_kept v kept (unpacked r).state g.state n) told.agent_is,
          takes a told,
        ),
      )

  module _ (a : ℕ) (told : TakesNotice r n a x) where
    refused : is_heard (unpacked r) n ≡ false → {p q : Page} (k : List ℕ) → Puts p (unheard_marks v kept n a) q → k ≡ unheard_kept v kept n →
        Drawing p q k
    unfolding notice_marks notice_kept
    refused not-heard k w e = rw not-heard (told_as (ap (unheard_marks v kept n) told.answers) w, (e, takes a told))

    pub heard_refused : (a ≡ 0 → ⊥) → {p q : Page} (k : List ℕ) → Puts p (unheard_marks v kept n a) q → k ≡ unheard_kept v kept n → Drawing p q k
    heard_refused off =
        refused (ap (λ m. both (eqb m done) (leb n.title id_max)) (sym told.answers) ∙ rw (ne_eqb a 0 off))

    pub heard_nobody : id_max < n.title → a ≡ 0 → {p q : Page} (k : List ℕ) → Puts p (unheard_marks v kept n a) q →
        k ≡ unheard_kept v kept n → Drawing p q k
    heard_nobody high ok =
        refused (ap (λ m. both (eqb m done) (leb n.title id_max)) (sym told.answers) ∙ rw (eq-eqb a 0 ok, lt-leb n.title id_max high))

-- the marks of an accepted notice, one behind the other
pub accepted_are : {p q₁ q₂ q₃ q₄ : Page} (v : View) (kept : List ℕ) (s z : State) (n : Notice) (b : Band) (t u : Title) → b ≡ band_of v n.title →
    t ≡ title_at s n.title → u ≡ title_at z n.title → (k₁ k₂ k₃ k₄ : List ℕ) →
    Puts p (curve_text v.curve s kept s.last n.time) q₁ → k₁ ≡ curve_kept v.curve s kept s.last n.time →
    Puts q₁ (turn_marks b k₁ t u n.time) q₂ → k₂ ≡ turn_kept b k₁ t u n.time → Puts q₂ (tick_text b k₂ n) q₃ → k₃ ≡ tick_kept b k₂ n →
    Puts q₃ (tick_label_text b k₃ n) q₄ → k₄ ≡ tick_label_kept b k₃ n →
    (Puts p (accepted_marks v kept s z n) q₄) × (k₄ ≡ accepted_kept v kept s z n)
unfolding accepted_marks accepted_kept
accepted_are v kept s z n b t u own is iu k₁ k₂ k₃ k₄ e₁ f₁ e₂ f₂ e₃ f₃ e₄ f₄ =
    let i : ℕ = n.title in
    let B : Band = band_of v i in
    let turn = then_kept (λ (k : List ℕ). turn_kept B k (title_at s i) (title_at z i) n.time) f₁ (rw (own, is, iu) at f₂) in
    let tick = then_kept (λ (k : List ℕ). tick_kept B k n) turn (rw own at f₃) in (
      then_text (λ (k : List ℕ). tick_label_text B k n)
          (then_text (λ (k : List ℕ). tick_text B k n)
          (then_text (λ (k : List ℕ). turn_marks B k (title_at s i) (title_at z i) n.time) e₁ f₁ (rw (own, is, iu) at e₂)) turn (rw own at e₃))
          tick (rw own at e₄),
      then_kept (λ (k : List ℕ). tick_label_kept B k n) tick (rw own at f₄),
    )
