-- The first error of bytes that are not a code file. Fields are read from the left: first fields without an error, and then one that is incomplete or wrong.
use Rattle.std.specs.Prelude.{◌≡◌, ℕ, ◌+◌, ◌*◌, ◌^◌, ◌<◌, ◌≤◌, ◌⊎◌, Bool, List, [], ◌∷◌, ◌++◌, length, take, slice_index, All, Option, Some, None, nat_lt, ◌==◌}
use Rattle.std.specs.Prelude.{if◌then◌else◌}
use Rattle.std.specs.List.{flat_map}
use Rattle.text_model.specs.Texts.{Text}
use Rattle.code_model.specs.Code.{Name, Literal, Code}
use Rattle.code_file.specs.declared.error.CodeError.{CodeError}
use Rattle.code_file.specs.declared.error.CodeErrorKind.{CodeErrorKind}
use Rattle.code_file.specs.declared.error.CodeErrorKind.TheVariants.{TooLong, BadMagic, Truncated, TooMany, NoCode, BadName, BadKind, BadLiteral, Trailing}
use Rattle.code_file.specs.declared.error.CodeErrorKind.TheVariants.{NoMemory}
use Rattle.code_file.specs.declared.header.Header.{Header}
use Rattle.code_file.specs.declared.limits.TheConstants.{MAX_BYTES, MAX_NAMES, MAX_LITERALS, MAX_INSTRS, MAX_NAME_BYTES}
use Rattle.code_file.specs.Grammar.{magic, number, kind_byte, name_field, literal_field, header_field, IsVersion, IsNameByte, IsCodeName, IsTextOf, IsLiteral}
use Rattle.code_file.specs.Grammar.{IsHeader, IsCodeFile}

abbrev pub fault : CodeErrorKind → ℕ → CodeError
fault kind at = record { kind = kind; at = at }

-- the bytes end before the field does
abbrev pub cut_short : Text → CodeError
cut_short bytes = fault Truncated (length bytes)

-- the same error, if this number of bytes comes before those that were examined
abbrev pub after : ℕ → CodeError → CodeError
after n e = fault e.kind (n + e.at)

-- ---- the error of an entry at the beginning of bytes

-- the byte at a place is the first that no name may have
pub record IsFirstWrong (text : Text) (place : ℕ) : Type 0 where
  pub within : place < length text
  pub before : All IsNameByte (take place text)
  pub wrong : IsNameByte (slice_index text place) → ⊥

-- an entry's first byte is missing, or is neither 0 nor 1
pub data IsKindFault (bytes : Text) : CodeError → Type 0 where
  no_kind : bytes ≡ [] → IsKindFault bytes (cut_short bytes)
  bad_kind : (kind : ℕ) (rest : Text) → bytes ≡ kind ∷ rest → 1 < kind → IsKindFault bytes (fault BadKind 0)

abbrev pub IsNameLength : ℕ → Type 0
IsNameLength len = (0 < len) × (len ≤ MAX_NAME_BYTES)

pub data IsNameFault (bytes : Text) : CodeError → Type 0 where
  in_kind : (e : CodeError) → IsKindFault bytes e → IsNameFault bytes e
  no_length : (list : Bool) → bytes ≡ kind_byte list ∷ [] → IsNameFault bytes (cut_short bytes)
  bad_length : (list : Bool) (len : ℕ) (rest : Text) → bytes ≡ kind_byte list ∷ len ∷ rest → (IsNameLength len → ⊥)
      → IsNameFault bytes (fault BadName 1)
  no_text : (list : Bool) (len : ℕ) (rest : Text) → bytes ≡ kind_byte list ∷ len ∷ rest → IsNameLength len → length rest < len
      → IsNameFault bytes (cut_short bytes)
  bad_text : (name : Name) (rest : Text) (place : ℕ) → bytes ≡ name_field name ++ rest → IsNameLength (length name.text)
      → IsFirstWrong name.text place → IsNameFault bytes (fault BadName (2 + place))

pub data IsLiteralFault (bytes : Text) : CodeError → Type 0 where
  in_kind : (e : CodeError) → IsKindFault bytes e → IsLiteralFault bytes e
  no_length : (compared : Bool) (rest : Text) → bytes ≡ kind_byte compared ∷ rest → length rest < 2
      → IsLiteralFault bytes (cut_short bytes)
  no_text : (compared : Bool) (len : ℕ) (rest : Text) → bytes ≡ kind_byte compared ∷ (number len ++ rest) → len < 2 ^ 16
      → length rest < len → IsLiteralFault bytes (cut_short bytes)
  bad_text : (literal : Literal) (rest : Text) → bytes ≡ literal_field literal ++ rest → length literal.bytes < 2 ^ 16
      → (IsTextOf literal.compared literal.bytes → ⊥) → IsLiteralFault bytes (fault BadLiteral 3)

-- ---- the error of a table

-- the bytes are these entries, one after another: that many, none with an error
pub record IsTableOf {X : Type 0} (IsGood : X → Type 0) (field : X → Text) (count : ℕ) (bytes : Text) (entries : List X) : Type 0 where
  pub good : All IsGood entries
  pub counted : length entries ≡ count
  pub spells : bytes ≡ flat_map field entries

abbrev pub IsTable : {X : Type 0} → (X → Type 0) → (X → Text) → ℕ → Text → Type 0
IsTable {X} IsGood field count bytes = (entries : List X) × IsTableOf IsGood field count bytes entries

abbrev pub AreNames : ℕ → Text → Type 0
AreNames count bytes = IsTable IsCodeName name_field count bytes

abbrev pub AreLiterals : ℕ → Text → Type 0
AreLiterals count bytes = IsTable IsLiteral literal_field count bytes

-- fewer entries without an error than the count says, and then one with an error
pub record IsTableFault {X : Type 0} (IsGood : X → Type 0) (field : X → Text) (IsFault : Text → CodeError → Type 0)
    (count : ℕ) (bytes : Text) (e : CodeError) : Type 0 where
  pub before : ℕ
  pub fewer : before < count
  pub front : Text
  pub rest : Text
  pub spells : bytes ≡ front ++ rest
  pub table : IsTable IsGood field before front
  pub here : CodeError
  pub faulty : IsFault rest here
  pub place : e ≡ after (length front) here

abbrev pub IsFaultOfNames : ℕ → Text → CodeError → Type 0
IsFaultOfNames count bytes e = IsTableFault IsCodeName name_field IsNameFault count bytes e

abbrev pub IsFaultOfLiterals : ℕ → Text → CodeError → Type 0
IsFaultOfLiterals count bytes e = IsTableFault IsLiteral literal_field IsLiteralFault count bytes e

-- ---- the error of the header

-- a count over its limit, or no instruction
abbrev pub header_fault : Header → Option CodeError
header_fault h =
    if nat_lt MAX_NAMES h.names then Some (fault TooMany 4) else
    if nat_lt MAX_LITERALS h.literals then Some (fault TooMany 6) else
    if nat_lt MAX_INSTRS h.instrs then Some (fault TooMany 8) else
    if h.instrs == 0 then Some (fault NoCode 8) else None

-- a version, and numbers of two bytes
pub record IsHeaderField (h : Header) : Type 0 where
  pub version : IsVersion h.version
  pub names : h.names < 2 ^ 16
  pub literals : h.literals < 2 ^ 16
  pub instrs : h.instrs < 2 ^ 16

-- ---- bytes whose first fields have no error

pub record PastMagic (bytes : Text) : Type 0 where
  pub version : ℕ
  pub rest : Text
  pub known : IsVersion version
  pub spells : bytes ≡ magic version ++ rest

-- the counts are complete; they may be over their limits
pub record PastCounts (bytes : Text) : Type 0 where
  pub header : Header
  pub rest : Text
  pub numbers : IsHeaderField header
  pub spells : bytes ≡ header_field header ++ rest

pub record PastHeader (bytes : Text) : Type 0 where
  pub header : Header
  pub rest : Text
  pub allowed : IsHeader header
  pub spells : bytes ≡ header_field header ++ rest

pub record PastNames (bytes : Text) : Type 0 where
  pub header : Header
  pub names : Text
  pub rest : Text
  pub allowed : IsHeader header
  pub name_table : AreNames header.names names
  pub spells : bytes ≡ header_field header ++ (names ++ rest)

pub record PastLiterals (bytes : Text) : Type 0 where
  pub header : Header
  pub names : Text
  pub literals : Text
  pub rest : Text
  pub allowed : IsHeader header
  pub name_table : AreNames header.names names
  pub literal_table : AreLiterals header.literals literals
  pub spells : bytes ≡ header_field header ++ (names ++ (literals ++ rest))

-- ---- the error of a file

-- the error of the field that comes after fields without an error
pub data IsFieldFault (bytes : Text) : CodeError → Type 0 where
  bad_magic : (PastMagic bytes → ⊥) → IsFieldFault bytes (fault BadMagic 0)
  no_counts : (p : PastMagic bytes) → length p.rest < 6 → IsFieldFault bytes (cut_short bytes)
  bad_counts : (p : PastCounts bytes) (e : CodeError) → header_fault p.header ≡ Some e → IsFieldFault bytes e
  in_names : (p : PastHeader bytes) (e : CodeError) → IsFaultOfNames p.header.names p.rest e → IsFieldFault bytes (after 10 e)
  in_literals : (p : PastNames bytes) (e : CodeError) → IsFaultOfLiterals p.header.literals p.rest e
      → IsFieldFault bytes (after (10 + length p.names) e)
  in_instrs : (p : PastLiterals bytes) → length p.rest < 8 * p.header.instrs → IsFieldFault bytes (cut_short bytes)
  trailing : (front rest : Text) (b : ℕ) (c : Code) → IsCodeFile front c → bytes ≡ front ++ b ∷ rest
      → IsFieldFault bytes (fault Trailing (length front))

-- the length of the file is checked before all fields
pub data IsFirstFault (bytes : Text) : CodeError → Type 0 where
  too_long : MAX_BYTES < length bytes → IsFirstFault bytes (fault TooLong MAX_BYTES)
  in_field : (e : CodeError) → length bytes ≤ MAX_BYTES → IsFieldFault bytes e → IsFirstFault bytes e

-- the error for bytes that are rejected: their first error, or, only if they have none, out of memory
abbrev pub IsRefusal : Text → CodeError → Type 0
IsRefusal bytes e = IsFirstFault bytes e ⊎ ((e ≡ fault NoMemory 0) × ((c : Code) × IsCodeFile bytes c))
