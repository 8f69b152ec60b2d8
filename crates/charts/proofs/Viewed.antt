-- Laws of how a log is seen, and of its marks in their order.
use Prim.Native.Nat.{ℕ, ◌-◌}
use mathlib.Core.Path.{◌≡◌, refl, ap}
use mathlib.Core.List.{List}
use lib.ListN.{length, replicate}
use Rattle.rules.specs.Limits.{titles_max}
use Rattle.story.specs.declared.State.{State}
use Rattle.agent.specs.declared.Agent.{Agent}
use Rattle.agent.specs.Played.{agent_played}
use Rattle.strips.specs.Kept.{kept_length}
use Rattle.text.specs.declared.page.Page.{Page}
use Rattle.text.specs.Pages.{Puts}
use Rattle.text.proofs.Pages.{told_as}
use Rattle.curves.specs.Curves.{curve_text}
use Rattle.spans.specs.declared.Outline.{Outline}
use Rattle.frames.specs.declared.bands.View.{View}
use Rattle.log_marks.specs.Ending.{all_marks, all_kept, cut_marks, cut_kept}
use Rattle.log_marks.specs.Played.{drawn_of}
use Rattle.charts.specs.Charts.{first_drawn, view_at, rest_text, marks_text}
use Rattle.log_marks.proofs.Threaded.{then_text, then_kept}

pub view_is : (m : Outline) (pool columns grain base first span : ℕ) → first ≡ first_drawn m → span ≡ m.end - first →
    record {
      curve = record {
        scale = record { first = first; span = span; columns = columns; grain = grain };
        pool = pool;
        base = base;
      };
      caps = m.extent.caps;
    } ≡ view_at m pool columns grain base
view_is m pool columns grain base first span f e = rw (e, f) refl

-- what is left at a log's end, one behind the other
pub rest_is : {p q₂ q₃ q₄ : Page} (m : Outline) (v : View) (s : State) (kept : List ℕ) (size : ℕ) (k₂ k₃ : List ℕ) →
    Puts p (cut_marks kept m.stop size) q₂ → k₂ ≡ cut_kept kept m.stop size → Puts q₂ (all_marks v s k₂ m.end titles_max) q₃ →
    k₃ ≡ all_kept v s k₂ m.end titles_max → Puts q₃ (curve_text v.curve s k₃ s.last m.end) q₄ → Puts p (rest_text m v s kept size) q₄
unfolding rest_text
rest_is m v s kept size k₂ k₃ e₂ f₂ e₃ f₃ e₄ =
    let all = then_kept (λ (k : List ℕ). all_kept v s k m.end titles_max) f₂ f₃ in
    then_text (λ (k : List ℕ). curve_text v.curve s k s.last m.end)
    (then_text (λ (k : List ℕ). all_marks v s k m.end titles_max) e₂ f₂ e₃) all e₄

-- the marks of a log's notices, and what is left behind them
pub marks_are : {p q₁ q₂ : Page} (m : Outline) (v : View) (pool : ℕ) (log : List ℕ) (g : Agent) (kept : List ℕ) (k₁ : List ℕ) →
    kept ≡ replicate kept_length 0 → g ≡ agent_played pool log → Puts p (drawn_of v pool log kept).text q₁ → k₁ ≡ (drawn_of v pool log kept).kept →
    Puts q₁ (rest_text m v g.state k₁ (length log)) q₂ → Puts p (marks_text m v pool log) q₂
unfolding marks_text
marks_are m v pool log g kept k₁ none is e₁ f₁ e₂ =
    then_text (λ (k : List ℕ). rest_text m v (agent_played pool log).state k (length log)) (rw none at e₁) (rw none at f₁)
    (told_as (ap (λ (a : Agent). rest_text m v a.state k₁ (length log)) is) e₂)
