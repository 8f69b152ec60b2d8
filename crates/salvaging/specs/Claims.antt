-- The words of what is said of a scan (02, request 8): bytes in no stretch, stretches that rise, sequences that rise.
use Rattle.std.specs.Prelude.{ℕ, zero, suc, ◌+◌, ◌≤◌, ◌<◌, ◌≡◌, Bool, false, leb, ltb, get_or, drop}
use mathlib.Core.List.{List, [], ◌∷◌, ◌++◌, reverse, reverse_aux}
use Rattle.rules.specs.Limits.{both, either}
use Rattle.rules.specs.Refusals.{pick}
use Rattle.notice.specs.declared.Notice.{Notice}
use Rattle.scanning.specs.declared.scan.Move.TheVariants.{Take}
use Rattle.scanning.specs.Scan.{Stretch, end_of, move_in, scan_to, scan_of}

-- byte i lies in one of these stretches
unfoldable pub is_skipped : List Stretch → ℕ → Bool
is_skipped [] i = false
is_skipped (s ∷ ss) i = either (both (leb s.start i) (ltb i (end_of s))) (is_skipped ss i)

-- the first n bytes of a log but the skipped ones, in their order
unfoldable pub outside : List ℕ → List Stretch → ℕ → List ℕ
outside bs ss zero = []
outside bs ss (suc i) = pick (is_skipped ss i) (outside bs ss i) (outside bs ss i ++ get_or bs i 0 ∷ [])

-- how many bytes lie in stretches
unfoldable pub skipped_bytes : List Stretch → ℕ
skipped_bytes [] = 0
skipped_bytes (s ∷ ss) = skipped_bytes ss + s.size

-- stretches, newest first, that rise and never touch, none empty, each ending before a place
abbrev pub Apart : ℕ → List Stretch → Type 0
Apart p [] = Unit {0}
Apart p (s ∷ ss) = (end_of s < p) × ((0 < s.size) × Apart s.start ss)

-- a sequence smaller than each of these notices'
abbrev pub Below : ℕ → List Notice → Type 0
Below s [] = Unit {0}
Below s (n ∷ ns) = (s < n.sequence) × Below s ns

-- notices whose sequences rise
abbrev pub Rising : List Notice → Type 0
Rising [] = Unit {0}
Rising (n ∷ ns) = Below n.sequence ns × Rising ns

-- a log of these notices comes out whole: all of them are taken, every byte is kept, and none is skipped
pub record KeptWhole (bs : List ℕ) (ns : List Notice) : Type 0 where
  pub taken_is : (scan_of bs).taken ≡ reverse ns
  pub kept_is : (scan_of bs).kept ≡ bs
  pub skipped_is : (scan_of bs).skipped ≡ []

-- nothing that is taken from before place m runs over it, or has a sequence as large as one of these notices'
abbrev pub Clear : List ℕ → ℕ → List Notice → Type 0
Clear bs m ns =
    (j : ℕ) (n : Notice) (e : ℕ) → (scan_to bs j).place < m → move_in bs (scan_to bs j) ≡ Take n e
    → (e ≤ m) × Below n.sequence ns

-- once a scan has come to place m, these notices are what it takes, with every byte from there on, and nothing more is skipped
pub record ComeOut (bs : List ℕ) (m : ℕ) (ns : List Notice) : Type 0 where
  pub steps : ℕ
  pub there : (scan_to bs steps).place ≡ m
  pub taken_is : (scan_of bs).taken ≡ reverse_aux ns (scan_to bs steps).taken
  pub kept_is : (scan_of bs).kept ≡ (scan_to bs steps).kept ++ drop m bs
  pub skipped_is : (scan_of bs).skipped ≡ (scan_to bs steps).skipped
