-- A step that goes on moves ahead within the log, so the listing of what was read ends; and what is kept for the next read is
-- shorter than the longest notice.
-- Rests on what a step promises and on the laws of a notice's place.
use mathlib.Core.Path.{◌≡◌, refl, sym, ap, ◌∙◌}
use mathlib.Core.Bool.{Bool, true, false}
use mathlib.Core.List.{List}
use Prim.Native.Nat.{ℕ, suc, ◌-◌, ◌<◌, ◌≤◌}
use native.Mathlib.Omega.{arith}
use lib.ListN.{length}
use Rattle.rules.specs.Refusals.{pick}
use Rattle.notice.specs.declared.Found.{Found}
use Rattle.notice.specs.declared.Found.TheVariants as found
use Rattle.notice.specs.Fields.{table, start_of, span_of, longest_notice}
use Rattle.notice.specs.Decode.{read_at, place_after}
use Rattle.notice.specs.Log.{place_to, is_notice, notices_to}
use Rattle.notice.proofs.CaseSplits.{false_true}
use Rattle.notice.proofs.NoticePlaces.{inside}
use Rattle.notice.proofs.Windows.{few_left}
use Rattle.notice.proofs.ReadThrough.{place_within, stopped_on}
use Rattle.agent.specs.declared.Agent.{Agent}
use Rattle.agent.specs.Played.{agent_told}
use Rattle.agent.proofs.Played.{told_more}
use Rattle.text.specs.Feed.{count}
use Rattle.text.proofs.Moving.{count_low}
use Rattle.listing_io.specs.declared.steps.ListedStep.{ListedStep}
use Rattle.listing_io.specs.declared.input.Printed.{Printed}
use Rattle.listing_io.specs.Step.{Hears}
use Rattle.listing_io.specs.Listing.{UpTo, Drained}

-- a step that goes on has moved ahead, within the log; one that ends it stays
pub record Onward (log : List ℕ) (p : ℕ) (r : ListedStep) : Type 0 where
  pub ahead : r.more ≡ true → p < r.place
  pub within : r.more ≡ true → r.place ≤ length log
  pub stays : r.more ≡ false → r.place ≡ p

pub onward : (g : Agent) (bs : List ℕ) (p : ℕ) (r : ListedStep) → Hears g (read_at bs p) p r → Onward bs p r
onward g bs p r s = go (read_at bs p) refl s.place_is s.more_is
  where
    ends : r.place ≡ p → r.more ≡ false → Onward bs p r
    ends at more =
        record { ahead = λ q. false_true (sym more ∙ q); within = λ q. false_true (sym more ∙ q); stays = λ _. at }

    go : (f : Found) → read_at bs p ≡ f → r.place ≡ place_after f p → r.more ≡ is_notice f → Onward bs p r
    go (found.At n e) is at more =
        let i = inside bs p n e is in
        record {
          ahead = λ _. omega (arith, i.ahead);
          within = λ _. omega (arith, i.within);
          stays = λ q. false_true (sym q ∙ more);
        }
    go found.End is at more = ends at more
    go found.Malformed is at more = ends at more

-- how much a listing has left to do
abbrev pub left : List ℕ → ListedStep → ℕ
left bs r = pick r.more (suc (length bs - r.place)) 0

pub falls : (bs : List ℕ) (l r : ListedStep) → l.more ≡ true → l.place ≤ length bs → Onward bs l.place r
    → left bs r < left bs l
falls bs l r more low o = rw more (go r.more refl)
  where
    go : (b : Bool) → r.more ≡ b → pick b (suc (length bs - r.place)) 0 < suc (length bs - l.place)
    go true e = omega (arith, o.ahead e, o.within e)
    go false e = omega arith

-- ---- the listing of what was read, turn by turn

module _ (g : Agent) (log : List ℕ) where
  pub begun : UpTo g log (record { agent = g; place = 0; size = 0; more = true })
  unfolding place_to notices_to agent_told
  begun = record { reads = 0; place_is = refl; agent_is = refl; stopped = λ q. false_true (sym q) }

  pub low : (l : ListedStep) → UpTo g log l → l.place ≤ length log
  low l u = rw u.place_is (place_within log u.reads)

  -- a step further is one read further
  pub further_on : (l r : ListedStep) → UpTo g log l → Hears l.agent (read_at log l.place) l.place r → UpTo g log r
  unfolding place_to notices_to
  further_on l r u h =
      let n = u.reads in
      let f = read_at log (place_to log n) in
      let there : read_at log l.place ≡ f = ap (read_at log) u.place_is in
      let on : r.more ≡ is_notice f = h.more_is ∙ ap is_notice there in
      let at : r.place ≡ place_to log (suc n) = h.place_is ∙ rw (there, u.place_is) refl in
      record {
        reads = suc n;
        place_is = at;
        agent_is = h.agent_is ∙ rw (there, u.agent_is) (told_more g (notices_to log n) f);
        stopped = λ q. rw at (stopped_on log n (sym on ∙ q));
      }

-- ---- what is kept for the next read

-- of a part of so many bytes, fewer are kept than the longest notice has
pub kept_few : (g : Agent) (l part : List ℕ) (over : Bool) (r : Printed) (to n : ℕ) → Drained g part over r
    → r.written ≡ true → to ≡ length part
    → n ≡ count l r.listed.place to → r.listed.more ≡ true → n < longest_notice
unfolding table start_of span_of
kept_few g l part over r to n d written is many more =
    let place = r.listed.place in
    let few = few_left over part place (d.undecided written more) in
    omega (arith, few, count_low l place to)
