-- A line of the head-end from its first test on: an event, a word that is unknown here, or what the console answers.
use Prim.Native.Nat.{ℕ, ◌≤◌}
use mathlib.Core.Path.{◌≡◌, sym, ap, ◌∙◌}
use mathlib.Core.Bool.{Bool, true}
use mathlib.Core.List.{List}
use borrow.Author.Tests.{eq-eqb, ne_eqb, eqb-true}
use lib.Dec.{eqb}
use lib.ListN.{length}
use Rattle.rules.specs.Limits.{within}
use Rattle.rules.specs.Refusals.{done}
use Rattle.rules.proofs.Tests.{both_l}
use Rattle.story.specs.declared.Event.{Event}
use Rattle.notice.specs.declared.Notice.{Notice}
use Rattle.notice.specs.Encode.{bytes_of}
use Rattle.agent.specs.declared.Agent.{Agent}
use Rattle.agent.specs.Series.{notice_for}
use Rattle.text.specs.declared.page.Page.{Page}
use Rattle.text.specs.Pages.{Puts}
use Rattle.text.proofs.Pages.{nothing, told_as}
use Rattle.console_commands.specs.Commands
use Rattle.console_lines.specs.declared.lines.Line.{Line}
use Rattle.console_lines.specs.Lines.{meaning, longest}
use Rattle.console_acts.specs.Events.{event_in}
use Rattle.console_acts.specs.Writing.{cut_event}
use Rattle.console_lines.proofs.Longest.{readable}
use Rattle.headend_desk.specs.Desk.{is_apart, starts_apart, is_event_of, head_answer, head_next, answer_line, event_text}
use Rattle.headend_desk.specs.Desk.{next_bytes, sum_text, event_notice, event_sum}
use Rattle.headend_desk.proofs.FirstWord.{first_word}
use Rattle.headend_desk.proofs.Taking.{Taken, next_notice}

-- ---- an event

module _ (g : Agent) (l : Line) (s : List ℕ) (e : Event) (is : e ≡ event_in l) (a : ℕ) (h : Agent) (taken : Taken g e a h) where
  pub acts_agent : h ≡ head_next g (event_in l)
  acts_agent = taken.1 ∙ ap (head_next g) is

  acts_answer : head_answer g (event_in l) ≡ a
  acts_answer = ap (head_answer g) (sym is) ∙ sym taken.0

  pub acts_text : {p q : Page} → Puts p (answer_line a h g l s) q → Puts p (event_text g l s) q
  unfolding event_text
  acts_text w = rw (acts_answer, ← acts_agent) w

  -- accepted: its notice and its sum
  its_bytes : a ≡ done → (n : Notice) → n ≡ notice_for h.sequence (cut_event e) → bytes_of n ≡ next_bytes g (event_in l)
  its_bytes z n made =
      ap bytes_of
      (made ∙ ap (λ (x : Agent). notice_for x.sequence (cut_event e)) taken.1
      ∙ next_notice g e (sym taken.0 ∙ z)
      ∙ ap (notice_for _) is)

  pub acts_notice : a ≡ done → (n : Notice) → n ≡ notice_for h.sequence (cut_event e) → {p q : Page} → Puts p (bytes_of n) q →
      Puts p (event_notice g (event_in l)) q
  unfolding event_notice
  acts_notice z n made w = rw (eq-eqb (head_answer g (event_in l)) done (acts_answer ∙ z)) (told_as (its_bytes z n made) w)

  pub acts_sum : a ≡ done → (n : Notice) → n ≡ notice_for h.sequence (cut_event e) → {p q : Page} →
      Puts p (sum_text (bytes_of n)) q → Puts p (event_sum g (event_in l)) q
  unfolding event_sum
  acts_sum z n made w = rw (eq-eqb (head_answer g (event_in l)) done (acts_answer ∙ z)) (told_as (ap sum_text (its_bytes z n made)) w)

  -- refused: nothing
  pub no_notice : (a ≡ done → ⊥) → {p : Page} → Puts p (event_notice g (event_in l)) p
  unfolding event_notice
  no_notice z = rw (ne_eqb (head_answer g (event_in l)) done (λ o. z (sym acts_answer ∙ o))) nothing

  pub no_sum : (a ≡ done → ⊥) → {p : Page} → Puts p (event_sum g (event_in l)) p
  unfolding event_sum
  no_sum z = rw (ne_eqb (head_answer g (event_in l)) done (λ o. z (sym acts_answer ∙ o))) nothing

-- ---- any other line

-- the word that it starts with is tested where its command is
pub starts : (s : List ℕ) (l : Line) → l ≡ meaning s → {t b : Bool} → t ≡ is_apart l.command → t ≡ b → starts_apart s ≡ b
starts s l is e y = sym (first_word s) ∙ ap (λ (m : Line). is_apart m.command) (sym is) ∙ sym e ∙ y

-- ---- a line

module _ (s : List ℕ) (l : Line) (is : l ≡ meaning s) (t : Bool) (e : t ≡ is_event_of l) where
  -- a line that says an event is no longer than the longest
  pub event_readable : t ≡ true → length s ≤ longest
  event_readable y =
      let clear : l.fault ≡ Commands.no_fault =
      eqb-true l.fault Commands.no_fault
      (both_l (eqb l.fault Commands.no_fault) (within Commands.do_open Commands.do_skip l.command) (sym e ∙ y)) in
      readable s (ap (λ (m : Line). m.fault) (sym is) ∙ clear)
