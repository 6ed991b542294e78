-- What contracts see of an `Env`, and of any other environment that a run reads.
use Rattle.std.specs.Prelude.{◌≡◌, ℕ, ◌+◌, ◌≤◌, ◌⊎◌, Bool, false, List, [], ◌∷◌, map, take, drop, length, is_some, Some, All}
use Rattle.text_model.specs.Texts.{Text}
use Rattle.environment_model.specs.Environment.{Environment, is_there, text_of, members_of}

-- the entries; a buffer that contains their texts and members; where the first of the buffer's two parts ends and the
-- second begins; and the offset and the length in the buffer of each member of the lists, one list after another
pub record EnvValue : Type 0 where
  pub entries : Environment
  pub buffer : Text
  pub seam : ℕ
  pub spans : List (ℕ × ℕ)

-- no entry has the name of one after it
abbrev pub EachNameOnce : Environment → Type 0
EachNameOnce [] = Unit {0}
EachNameOnce (e ∷ env) = (is_there env e.name ≡ false) × EachNameOnce env

-- the name is defined, and denotes a text
abbrev pub denotes_text : Environment → Text → Bool
denotes_text env name = is_some (text_of env name)

-- ---- where texts and members are

-- the bytes at an offset, with the given length
abbrev pub piece_at : Text → ℕ × ℕ → Text
piece_at buffer at = take at.1 (drop at.0 buffer)

-- the offset and the length are those of a piece of the buffer, which does not cross the seam
pub record IsWithin (env : EnvValue) (at : ℕ × ℕ) : Type 0 where
  pub inside : at.0 + at.1 ≤ length env.buffer
  pub one_side : (at.0 + at.1 ≤ env.seam) ⊎ (env.seam ≤ at.0)

-- the name denotes a text, which is at this offset and length
pub record IsTextAt (env : EnvValue) (name : Text) (at : ℕ × ℕ) : Type 0 where
  pub within : IsWithin env at
  pub is : text_of env.entries name ≡ Some (piece_at env.buffer at)

-- the members of the name are at `count` spans from `first` on, in their order
pub record AreMembersAt (env : EnvValue) (name : Text) (first count : ℕ) : Type 0 where
  pub within : first + count ≤ length env.spans
  pub are : members_of env.entries name ≡ map (piece_at env.buffer) (take count (drop first env.spans))

-- what holds for every environment that a run reads: its limits, and that the seam and the members are in the buffer
pub record IsInOrder (env : EnvValue) : Type 0 where
  pub buffer : length env.buffer ≤ 1048576
  pub seam : env.seam ≤ length env.buffer
  pub spans : length env.spans ≤ 65535
  pub inside : All (IsWithin env) env.spans
