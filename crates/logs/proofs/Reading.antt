-- The log as far as it was played, read by read: each step is one read more, and where reading stops all of it is played.
-- Rests on the laws of a log read from its start, and on no reached state being out of its limits.
use mathlib.Core.Path.{◌≡◌, refl, sym, ap, ◌∙◌}
use mathlib.Core.Bool.{true, false}
use mathlib.Core.List.{List, ◌∷◌}
use Prim.Native.Nat.{ℕ, suc, ◌-◌, ◌<◌}
use native.Mathlib.Omega.{arith}
use lib.ListN.{length}
use Rattle.rules.specs.Refusals.{pick}
use Rattle.notice.specs.declared.Notice.{Notice}
use Rattle.notice.specs.declared.Reading.TheVariants as reading
use Rattle.notice.specs.declared.Found.{Found}
use Rattle.notice.specs.declared.Found.TheVariants as found
use Rattle.notice.specs.Decode.{read_at, place_after}
use Rattle.notice.specs.Log.{Bytes, place_to, is_notice, with_found, notices_to}
use Rattle.notice.proofs.CaseSplits.{false_true}
use Rattle.notice.proofs.NoticePlaces.{inside}
use Rattle.notice.proofs.ReadThrough.{all_read}
use Rattle.story.specs.Kept.{state_ok}
use Rattle.agent.specs.declared.Agent.{Agent}
use Rattle.agent.specs.Turns.{fresh_agent, noticed}
use Rattle.agent.specs.Played.{agent_told}
use Rattle.agent.proofs.Played.{log_series}
use Rattle.agent_rows.specs.Packed.{unpacked}
use Rattle.row_calls.specs.inner.Steps.{Tested, SoundAgentRow}
use Rattle.logs.specs.declared.PlayedLog.{PlayedLog}
use Rattle.logs.specs.Reading.{played_of, Unplayed, kept_told, stepped, agent_read, RowRead, kept_read, PlayedStep, Plays}
use Rattle.logs.proofs.Lives.{told_ok}

module _ {A : Type 0} (hear : Agent → Notice → A → A) (pool : ℕ) (log : List ℕ) (x : A) where
  -- so many reads were played
  pub record PlayedTo (r : List ℕ) (p : PlayedLog) (y : A) : Type 0 where
    pub reads : ℕ
    pub is_row : SoundAgentRow r
    pub agent_is : unpacked r ≡ agent_told (fresh_agent pool) (notices_to log reads)
    pub place_is : p.place ≡ place_to log reads
    pub kept_is : y ≡ kept_told hear (fresh_agent pool) x (notices_to log reads)
    pub stopped : p.more ≡ false → is_notice (read_at log (place_to log reads)) ≡ false

  pub not_begun : (r : List ℕ) (p : PlayedLog) (y : A) → Unplayed pool r p → y ≡ x → PlayedTo r p y
  unfolding notices_to place_to agent_told kept_told
  not_begun r p y none k =
      rw none.played_is
      (record {
        reads = 0;
        is_row = none.is_row;
        agent_is = none.agent_is;
        place_is = refl;
        kept_is = k;
        stopped = λ h. false_true (sym h);
      })

  -- one read more that finds no notice
  no_more : (r : List ℕ) (p : PlayedLog) (y : A) (s : List ℕ) (f : Found) → read_at log p.place ≡ f → is_notice f ≡ false →
      SoundAgentRow s → unpacked s ≡ unpacked r → PlayedTo r p y → PlayedTo s (played_of p.place false) y
  no_more r p y s f is none own same w =
      record {
        reads = w.reads;
        is_row = own;
        agent_is = same ∙ w.agent_is;
        place_is = w.place_is;
        kept_is = w.kept_is;
        stopped = λ h. ap is_notice (ap (read_at log) (sym w.place_is) ∙ is) ∙ none;
      }

  one_read_more : (r : List ℕ) (p : PlayedLog) (y : A) (s : List ℕ) (f : Found) → read_at log p.place ≡ f → RowRead r f s → PlayedTo r p y →
      PlayedTo s (stepped p.place f) (kept_read hear (unpacked r) y f)
  unfolding stepped agent_read kept_read notices_to place_to agent_told kept_told
  one_read_more r p y s (found.At n e) is row w =
      let here : read_at log (place_to log w.reads) ≡ found.At n e = ap (read_at log) (sym w.place_is) ∙ is in
      let more : notices_to log (suc w.reads) ≡ n ∷ notices_to log w.reads = ap (λ f. with_found f (notices_to log w.reads)) here in
      record {
        reads = suc w.reads;
        is_row = row.is_row;
        agent_is = row.agent_is ∙ ap (λ (g : Agent). noticed g (reading.Whole n)) w.agent_is ∙ ap (agent_told (fresh_agent pool)) (sym more);
        place_is = ap (λ f. place_after f (place_to log w.reads)) (sym here);
        kept_is = ap (λ (g : Agent). hear g n y) w.agent_is
            ∙ ap (hear (agent_told (fresh_agent pool) (notices_to log w.reads)) n) w.kept_is
            ∙ ap (kept_told hear (fresh_agent pool) x) (sym more);
        stopped = λ h. false_true (sym h);
      }
  one_read_more r p y s found.End is row w = no_more r p y s found.End is refl row.is_row row.agent_is w
  one_read_more r p y s found.Malformed is row w = no_more r p y s found.Malformed is refl row.is_row row.agent_is w

  pub played_on : (r s : List ℕ) (p q : PlayedLog) (y z : A) → PlayedStep hear r p.place y (read_at log p.place) s q z → PlayedTo r p y →
      PlayedTo s q z
  played_on r s p q y z one w =
      rw (one.played_is, one.kept_is) (one_read_more r p y s (read_at log p.place) refl one.row_read w)

  -- the row is one that the next read need not test
  pub tested : (r : List ℕ) (p : PlayedLog) (y : A) → PlayedTo r p y → Bytes log → Tested r
  tested r p y w small =
      record {
        long = w.is_row.long;
        sound = w.is_row.sound;
        ok = ap (λ (g : Agent). state_ok g.state) w.agent_is
            ∙ told_ok pool _ (notices_to log w.reads) (log_series log small w.reads);
      }

  -- once no notice is found all of the log is played
  pub all_played : (r : List ℕ) (p : PlayedLog) (y : A) → PlayedTo r p y → p.more ≡ false → Plays hear pool log x r p y
  all_played r p y w h =
      let all = all_read log w.reads (w.stopped h) in
      record {
        agent_is = w.agent_is ∙ ap (agent_told (fresh_agent pool)) all.1;
        place_is = w.place_is ∙ all.0;
        kept_is = w.kept_is ∙ ap (kept_told hear (fresh_agent pool) x) all.1;
      }

-- how much of a log is left to play
abbrev pub left : List ℕ → PlayedLog → ℕ
left log p = pick p.more (suc (length log - p.place)) 0

pub falls : (log : List ℕ) (p q : PlayedLog) → p.more ≡ true → q ≡ stepped p.place (read_at log p.place) → left log q < left log p
unfolding stepped
falls log p q going e =
    let all : left log p ≡ suc (length log - p.place) = rw going refl in
    rw (all, e) (go (read_at log p.place) refl)
  where
    go : (f : Found) → read_at log p.place ≡ f → left log (stepped p.place f) < suc (length log - p.place)
    go (found.At n e) is = let on = inside log p.place n e is in omega (arith, on.ahead, on.within)
    go found.End is = omega arith
    go found.Malformed is = omega arith
