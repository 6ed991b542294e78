-- Names, and the forks of the search for a name.
use Rattle.std.specs.Prelude.{◌≡◌, ℕ, ◌+◌, ◌/◌, ◌%◌, ◌^◌, ◌<◌, ◌≤◌, ◌==◌, ◌⊎◌, Bool, false, List, [], ◌∷◌, map, length, slice_range, slice_get, slice_index_or}
use Rattle.std.specs.Prelude.{Option, Some, All, if◌then◌else◌}
use Rattle.std.specs.Option.{option_map, option_map_or}
use Rattle.text_model.specs.Texts.{Text}
use Rattle.environment_model.specs.Environment.{is_among}
use Rattle.target_vars.specs.declared.names.NamePlace.{NamePlace}
use Rattle.target_vars.specs.declared.names.forks.Fork.{Fork}
use Rattle.target_vars.specs.declared.names.forks.Branch.{Branch}
use Rattle.target_vars.specs.declared.names.forks.Branch.TheVariants.{Further, Ends}

-- the names in the order in which they were added, and a fork for each
pub record NamesValue : Type 0 where
  pub listed : List Text
  pub forks : List Fork

-- the names at these places
abbrev pub placed_names : Text → List NamePlace → List Text
placed_names bytes places = map (λ p. slice_range bytes p.start p.end) places

pub record IsNamePlace (bytes : Text) (p : NamePlace) : Type 0 where
  pub start_le_end : p.start ≤ p.end
  pub inside : p.end ≤ length bytes

-- ---- the search

-- the code of a text at a place: one more than its byte, and 0 past its end
abbrev pub code_at : Text → ℕ → ℕ
code_at text at = option_map_or (λ byte. byte + 1) (slice_get text at) 0

abbrev pub is_set : ℕ → ℕ → Bool
is_set code bit = (code / 2 ^ (bit % 16)) % 2 == 1

-- whether the bit that the fork tests is set in the text
abbrev pub is_high : Fork → Text → Bool
is_high fork text = is_set (code_at text fork.at) fork.bit

-- where the search for a text continues after a fork
abbrev pub branch_of : Fork → Text → Branch
branch_of fork text = if is_high fork text then fork.high else fork.low

-- the fork with another branch for the text
abbrev pub turned : Fork → Text → Branch → Fork
turned fork text branch = if is_high fork text then record fork { high = branch } else record fork { low = branch }

abbrev pub branch_at : List Fork → Text → ℕ → Option Branch
branch_at forks text at = option_map (λ fork. branch_of fork text) (slice_get forks at)

-- from a fork on, the search for a text goes through these other forks, and ends at the last one, with a number
abbrev pub Passes : List ℕ → List Fork → Text → ℕ → ℕ → ℕ → Type 0
Passes [] forks text from last number = (from ≡ last) × (branch_at forks text last ≡ Some (Ends number))
Passes (next ∷ others) forks text from last number = (branch_at forks text from ≡ Some (Further next)) × Passes others forks text next last number

-- the search for a text, which begins at the first fork, ends at the last one with a number
pub record Leads (forks : List Fork) (text : Text) (last number : ℕ) : Type 0 where
  pub path : List ℕ
  pub passes : Passes path forks text 0 last number

-- the branch leads to a later fork, or to one of the numbers
abbrev pub IsForward : ℕ → ℕ → Branch → Type 0
IsForward count at (Further next) = (at < next) × (next < count)
IsForward count at (Ends number) = number < count

abbrev pub AreForward : List Fork → Type 0
AreForward forks = (text : Text) (at : ℕ) (branch : Branch) → branch_at forks text at ≡ Some branch → IsForward (length forks) at branch

-- the bytes contain each name at its place, and the search for it ends with its number
pub record AreNames (bytes : Text) (places : List NamePlace) (forks : List Fork) : Type 0 where
  pub placed : All (IsNamePlace bytes) places
  pub one_each : length forks ≡ length places
  pub forward : AreForward forks
  pub found : (number : ℕ) (name : Text) → slice_get (placed_names bytes places) number ≡ Some name → (last : ℕ) × Leads forks name last number

-- ---- one more name

-- there is no such name, and the search for it ends at this fork
pub record IsGap (names : NamesValue) (name : Text) (gap : ℕ) : Type 0 where
  pub lacks : is_among name names.listed ≡ false
  pub ends : 0 < length names.listed → (number : ℕ) × (number < length names.listed) × Leads names.forks name gap number

-- the fork separates the new name, which gets the next number, from the one with which the search for it ended
pub record Separates (names : NamesValue) (name : Text) (gap : ℕ) (fork : Fork) : Type 0 where
  pub own : branch_of fork name ≡ Ends (length names.listed)
  pub other : (number : ℕ) → branch_at names.forks name gap ≡ Some (Ends number) → branch_of fork (slice_index_or names.listed number []) ≡ Ends number
  pub ends : (text : Text) → (number : ℕ) × (number ≤ length names.listed) × (branch_of fork text ≡ Ends number)

-- one more fork, which the search for the name reaches from its gap, and which only searches reach that ended at that gap before
pub record IsForked (old : List Fork) (name : Text) (gap : ℕ) (fork : Fork) (new : List Fork) : Type 0 where
  pub longer : length new ≡ length old + 1
  pub last : (text : Text) → branch_at new text (length old) ≡ Some (branch_of fork text)
  pub own : gap < length old → branch_at new name gap ≡ Some (Further (length old))
  pub others : (text : Text) (at : ℕ) → at < length old
      → (branch_at new text at ≡ branch_at old text at)
      ⊎ ((at ≡ gap) × (branch_at new text at ≡ Some (Further (length old))) × (branch_at old text gap ≡ branch_at old name gap))
