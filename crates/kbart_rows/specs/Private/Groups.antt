-- The entries of one hash, and what is noted of their rows.
use Rattle.std.specs.Prelude.{◌≡◌, ℕ, ◌+◌, ◌≤◌, ◌<◌, List, length, get_or}
use Rattle.kbart_rows.specs.declared.index.Entry.{Entry}
use Rattle.kbart_rows.specs.declared.sharing.Sharing.{Sharing}

-- the entries of a hash are among those from `start` to `end`
abbrev pub AreWithin : List Entry → ℕ → ℕ → ℕ → Type 0
AreWithin entries hash start end = (k : ℕ) (d : Entry) → k < length entries → (get_or entries k d).hash ≡ hash → (start ≤ k) × (k < end)

-- no entry of the hash has an earlier row than the first, and there are no more of them
pub record IsNoted (entries : List Entry) (hash first most : ℕ) : Type 0 where
  pub from : (k : ℕ) (d : Entry) → k < length entries → (get_or entries k d).hash ≡ hash → first ≤ (get_or entries k d).row
  pub start : ℕ
  pub end : ℕ
  pub within : AreWithin entries hash start end
  pub few : end ≤ start + most

-- the hash of each of the first entries is noted at its row
abbrev pub AreNoted : List Entry → ℕ → List Sharing → Type 0
AreNoted entries count notes = (k : ℕ) (d : Entry) (e : Sharing) → k < count → k < length entries → (get_or entries k d).row < length notes
    → IsNoted entries (get_or entries k d).hash (get_or notes (get_or entries k d).row e).first (get_or notes (get_or entries k d).row e).rows

-- no more is said of any row than of itself
abbrev pub AreFresh : List Sharing → Type 0
AreFresh notes = (row : ℕ) (e : Sharing) → row < length notes → ((get_or notes row e).first ≤ row) × (1 ≤ (get_or notes row e).rows)

-- the new notes say no more of any row
pub record AreLooser (old new : List Sharing) : Type 0 where
  pub size : length new ≡ length old
  pub first : (row : ℕ) (e : Sharing) → (get_or new row e).first ≤ (get_or old row e).first
  pub rows : (row : ℕ) (e : Sharing) → (get_or old row e).rows ≤ (get_or new row e).rows

-- of a row at least this is noted
abbrev pub IsAtLeast : List Sharing → ℕ → ℕ → ℕ → Type 0
IsAtLeast notes row first most = (e : Sharing) → row < length notes → ((get_or notes row e).first ≤ first) × (most ≤ (get_or notes row e).rows)
