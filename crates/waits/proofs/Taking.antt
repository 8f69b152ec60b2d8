-- Laws of one byte of a text of arrivals, as the code meets its cases. Rest on the definition of a text as far as it was read.
use mathlib.Core.Path.{◌≡◌, refl, sym, ap, ◌∙◌}
use mathlib.Core.Bool.{Bool, true, false}
use Rattle.std.proofs.Common.{Some, None, is_some, unwrap_or}
use mathlib.Core.Logic.{⊎_elim}
use mathlib.Core.List.{List}
use Prim.Native.Nat.{ℕ, zero, suc, ◌≤◌}
use native.Mathlib.Omega.{arith}
use lib.ListN.{length, get_or}
use Rattle.rules.specs.Refusals.{pick}
use Rattle.rules.proofs.Tests.{decide, pick_true, pick_false}
use Rattle.text.specs.declared.numbers.Number.{Number}
use Rattle.text.specs.Bytes.{digit}
use Rattle.text.specs.Numbers.{grow}
use Rattle.text.specs.Output.{Page, page, put}
use Rattle.text.proofs.Pages.{put_length, put_within}
use Rattle.waits.specs.declared.arrivals.ArrivalsScan.{ArrivalsScan}
use Rattle.waits.specs.Arrivals.{is_gap, ArrivalsSoFar, arrivals_so_far, ending_arrival, spelling_arrival, failing_arrival, taking_arrival, arrivals_to, all_arrivals}

module _ (row : List ℕ) (s : ArrivalsScan) where
  pub ends_in : (after : List ℕ) (n v : ℕ) → s.spelt ≡ Some v → page after n ≡ put (page row s.count) v
      → arrivals_so_far after (record { count = n; spelt = None; wrong = s.wrong }) ≡ ending_arrival (arrivals_so_far row s)
  unfolding ending_arrival
  ends_in after n v h e =
      rw h (ap (λ (p : Page). arrivals_so_far p.row (record { count = p.at; spelt = None; wrong = s.wrong })) e)

  pub ends_out : s.spelt ≡ None → arrivals_so_far row s ≡ ending_arrival (arrivals_so_far row s)
  unfolding ending_arrival
  ends_out h = rw h refl

  module _ (place b : ℕ) where
    pub takes_none : is_some s.wrong ≡ true → arrivals_so_far row s ≡ taking_arrival (arrivals_so_far row s) place b
    unfolding taking_arrival
    takes_none h = sym (pick_true (is_some s.wrong) _ _ h)

    module _ (sound : is_some s.wrong ≡ false) where
      pub takes_digit : (v : ℕ) (n : Number) → digit b ≡ true → v ≡ unwrap_or s.spelt 0 → n ≡ grow (record { value = v; over = false }) b
          → arrivals_so_far row (record { count = s.count; spelt = Some n.value; wrong = s.wrong }) ≡ taking_arrival (arrivals_so_far row s) place b
      unfolding taking_arrival grow
      takes_digit v n h f e = rw (e, f) (sym (pick_false (is_some s.wrong) _ _ sound ∙ pick_true (digit b) _ _ h))

      pub takes_gap : (after : List ℕ) (q : ArrivalsScan) → digit b ≡ false → is_gap b ≡ true →
          arrivals_so_far after q ≡ ending_arrival (arrivals_so_far row s)
          → arrivals_so_far after q ≡ taking_arrival (arrivals_so_far row s) place b
      unfolding taking_arrival
      takes_gap after q h k e =
          e ∙ sym (pick_false (is_some s.wrong) _ _ sound ∙ pick_false (digit b) _ _ h ∙ pick_true (is_gap b) _ _ k)

      pub takes_other : digit b ≡ false → is_gap b ≡ false
          → arrivals_so_far row (record { count = s.count; spelt = s.spelt; wrong = Some place }) ≡ taking_arrival (arrivals_so_far row s) place b
      unfolding taking_arrival
      takes_other h k = sym (pick_false (is_some s.wrong) _ _ sound ∙ pick_false (digit b) _ _ h ∙ pick_false (is_gap b) _ _ k)

-- ---- the row keeps its length

pub ending_length : (s : ArrivalsSoFar) → length (ending_arrival s).row ≡ length s.row
unfolding ending_arrival
ending_length s =
    ⊎_elim (λ h. rw h (put_length (page s.row s.scan.count) (unwrap_or s.scan.spelt 0))) (λ h. rw h) (decide (is_some s.scan.spelt))

pub taking_length : (s : ArrivalsSoFar) (place b : ℕ) → length (taking_arrival s place b).row ≡ length s.row
unfolding taking_arrival
taking_length s place b = go (is_some s.scan.wrong) (digit b) (is_gap b)
  where
    go : (bad d g : Bool) →
        length (pick bad s (pick d (spelling_arrival s b) (pick g (ending_arrival s) (failing_arrival s place)))).row ≡ length s.row
    go false true g = refl
    go false false true = ending_length s
    go false false false = refl
    go true d g = refl

-- ---- no more numbers are counted than the row holds

abbrev Within : ArrivalsSoFar → Type 0
Within s = s.scan.count ≤ length s.row

ending_within : (s : ArrivalsSoFar) → Within s → Within (ending_arrival s)
unfolding ending_arrival
ending_within s h =
    ⊎_elim (λ t. rw t (put_within (page s.row s.scan.count) (unwrap_or s.scan.spelt 0) h)) (λ t. rw t h) (decide (is_some s.scan.spelt))

taking_within : (s : ArrivalsSoFar) (place b : ℕ) → Within s → Within (taking_arrival s place b)
unfolding taking_arrival
taking_within s place b h = go (is_some s.scan.wrong) (digit b) (is_gap b)
  where
    go : (bad d g : Bool) → Within (pick bad s (pick d (spelling_arrival s b) (pick g (ending_arrival s) (failing_arrival s place))))
    go false true g = h
    go false false true = ending_within s h
    go false false false = h
    go true d g = h

to_within : (text row : List ℕ) (n : ℕ) → Within (arrivals_to text row n)
unfolding arrivals_to
to_within text row zero = omega arith
to_within text row (suc n) = taking_within (arrivals_to text row n) (suc n) (get_or text n 0) (to_within text row n)

pub taken_within : (text row after : List ℕ) (r : ArrivalsScan) → arrivals_so_far after r ≡ all_arrivals text row → r.count ≤ length after
taken_within text row after r e =
    rw (← e) at (ending_within (arrivals_to text row (length text)) (to_within text row (length text)))
