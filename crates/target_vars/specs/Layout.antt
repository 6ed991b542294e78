-- How the entries of an `Env` are laid out in its buffer and its spans.
use Rattle.std.specs.Prelude.{◌≡◌, ℕ, suc, ◌+◌, ◌<◌, ◌≤◌, ◌==◌, List, [], ◌∷◌, ◌++◌, map, take, drop, length, insert, Bool, true, false, Some, ◌⊎◌, slice_get}
use Rattle.std.specs.Prelude.{All}
use Rattle.std.specs.List.{filter}
use Rattle.std.specs.List.Sorted.{IsNonDecreasingBy}
use Rattle.std.specs.Str.{IsCharBoundary}
use Rattle.text_model.specs.Texts.{Text}
use Rattle.environment_model.specs.Environment.{Environment, Meaning, Single, Several, byte_count, member_count, is_among, text_of}
use Rattle.target_vars.specs.EnvValue.{EnvValue, EachNameOnce, IsWithin, piece_at}
use Rattle.target_vars.specs.declared.place.Part.{Part}
use Rattle.target_vars.specs.declared.place.Span.{Span}
use Rattle.target_vars.specs.declared.place.Place.{Place}
use Rattle.target_vars.specs.declared.place.Place.TheVariants.{One, Many}
use Rattle.target_vars.specs.declared.env.TheConstants.{MAX_BYTES, MAX_MEMBERS}

-- the offset and the length of a part
abbrev pub at : Part → ℕ × ℕ
at part = (part.start, part.len)

-- the bytes of a part, and of a span
abbrev pub part_bytes : Text → Part → Text
part_bytes buffer part = piece_at buffer (at part)

abbrev pub span_bytes : Text → Span → Text
span_bytes buffer span = part_bytes buffer span.part

-- the part begins and ends between two characters of the buffer
pub record IsPart (buffer : Text) (part : Part) : Type 0 where
  pub begins : IsCharBoundary buffer part.start
  pub ends : IsCharBoundary buffer (part.start + part.len)

abbrev pub IsPiece : Text → Span → Type 0
IsPiece buffer span = IsPart buffer span.part

-- each span is a piece of the buffer, and there are no more than an `Env` has
pub record IsPieces (buffer : Text) (spans : List Span) : Type 0 where
  pub pieces : All (IsPiece buffer) spans
  pub few_bytes : length buffer ≤ MAX_BYTES
  pub few : length spans ≤ MAX_MEMBERS

-- the spans with a name's number
abbrev pub spans_of : List Span → ℕ → List Span
spans_of spans number = filter (λ s. s.list == number) spans

-- the spans of a list are next to each other, `count` of them from `first` on
pub record AreAdjacent (spans : List Span) (number first count : ℕ) : Type 0 where
  pub within : first + count ≤ length spans
  pub is : take count (drop first spans) ≡ spans_of spans number

-- one more span, which comes last in its list
pub record IsPutLast (spans : List Span) (span : Span) (new : List Span) : Type 0 where
  pub place : ℕ
  pub within : place ≤ length spans
  pub is : new ≡ insert spans place span
  pub in_order : IsNonDecreasingBy (λ s. s.list) new
  pub own : spans_of new span.list ≡ spans_of spans span.list ++ span ∷ []
  pub others : (number : ℕ) → (span.list == number) ≡ false → spans_of new number ≡ spans_of spans number

-- ---- the entries

-- the members of a name's list
abbrev pub list_members : Text → List Span → ℕ → List Text
list_members buffer spans number = map (span_bytes buffer) (spans_of spans number)

-- what a name denotes, given the members of its list
abbrev pub meaning_in : Text → List Text → Place → Meaning
meaning_in buffer members (One part) = Single (part_bytes buffer part)
meaning_in buffer members Many = Several members

-- the entries of the names from a number on, given the members for each number
unfoldable pub entries_from : Text → (ℕ → List Text) → ℕ → List Text → List Place → Environment
entries_from buffer members number [] places = []
entries_from buffer members number (name ∷ names) [] = []
entries_from buffer members number (name ∷ names) (place ∷ places) =
    record { name = name; meaning = meaning_in buffer (members number) place } ∷ entries_from buffer members (suc number) names places

abbrev pub laid_entries : Text → List Span → List Text → List Place → Environment
laid_entries buffer spans names places = entries_from buffer (list_members buffer spans) 0 names places

-- the offsets and lengths of the spans
abbrev pub laid_spans : List Span → List (ℕ × ℕ)
laid_spans spans = map (λ s. at s.part) spans

-- the name denotes a text, which is at this part
pub record IsTextPart (env : EnvValue) (name : Text) (part : Part) : Type 0 where
  pub is_part : IsPart env.buffer part
  pub within : IsWithin env (at part)
  pub is : text_of env.entries name ≡ Some (part_bytes env.buffer part)

abbrev pub is_one : Place → Bool
is_one (One part) = true
is_one Many = false

-- a text's place is a part of the buffer
abbrev pub IsPlace : Text → Place → Type 0
IsPlace buffer (One part) = IsPart buffer part
IsPlace buffer Many = Unit {0}

-- the buffer has exactly the bytes of the entries, and the spans are those of all lists, with the numbers of their names
pub record IsLaid (buffer : Text) (spans : List Span) (names : List Text) (places : List Place) : Type 0 where
  pub pieces : All (IsPiece buffer) spans
  pub placed : All (IsPlace buffer) places
  pub one_each : length places ≡ length names
  pub in_order : IsNonDecreasingBy (λ s. s.list) spans
  pub known : All (λ s. s.list < length names) spans
  pub filled : byte_count (laid_entries buffer spans names places) ≡ length buffer
  pub counted : member_count (laid_entries buffer spans names places) ≡ length spans
  pub once : EachNameOnce (laid_entries buffer spans names places)
  pub few_bytes : length buffer ≤ MAX_BYTES
  pub few_members : length spans ≤ MAX_MEMBERS

-- the name has a list with this number, which is new if the name was undefined
pub record HasList (names : List Text) (places : List Place) (name : Text) (names' : List Text) (places' : List Place) (number : ℕ) : Type 0 where
  pub named : slice_get names' number ≡ Some name
  pub is_list : slice_get places' number ≡ Some Many
  pub cases : ((names' ≡ names) × (places' ≡ places)) ⊎ ((is_among name names ≡ false) × (names' ≡ names ++ name ∷ []) × (places' ≡ places ++ Many ∷ []))
