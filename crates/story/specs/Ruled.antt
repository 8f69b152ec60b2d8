-- A life as the events allow it: what statements ask of any life (01, "Events"; 02, 12). Every accepted sequence gives such lives
-- (proofs/Lives).
use Rattle.std.specs.Prelude.{◌≡◌, ℕ, ◌≤◌, ◌<◌}
use Rattle.scheme.specs.Scheme.{steady_kind}
use Rattle.scheme.specs.Lawful.{Lawful}
use Rattle.story.specs.Life.{Life, scheme}
use Rattle.story.specs.Story.{tick_length}

-- a lawful scheme, one count alone for a skip-forward title, and a rule that keeps to floor and cap, closing apart
pub record Ruled (L : Life) : Type 0 where
  pub laws : Lawful (scheme L) L.film.length (tick_length L) L.film.floor L.film.cap
  pub flat : L.film.kind ≡ steady_kind → L.film.floor ≡ L.film.cap
  pub low : (t : ℕ) → 0 < L.rule t → L.film.floor ≤ L.rule t
  pub high : (t : ℕ) → L.rule t ≤ L.film.cap
