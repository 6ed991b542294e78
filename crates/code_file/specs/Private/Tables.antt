-- The bytes of a file cut into its tables.
use Rattle.std.specs.Prelude.{◌≡◌, ℕ, ◌*◌, ◌<◌, ◌++◌, List, length, take, All}
use Rattle.std.specs.List.{HoldsAt}
use Rattle.text_model.specs.Texts.{Text}
use Rattle.code_file.specs.declared.header.Header.{Header}
use Rattle.code_file.specs.Grammar.{header_field, IsHeader}
use Rattle.code_file.specs.Fault.{AreNames, AreLiterals}

-- the bytes are a header, the tables of names and of literals, and eight bytes for each instruction
pub record AreTables (bytes : Text) (h : Header) (names literals instrs : Text) : Type 0 where
  pub allowed : IsHeader h
  pub name_table : AreNames h.names names
  pub literal_table : AreLiterals h.literals literals
  pub room : length instrs ≡ 8 * h.instrs
  pub spells : bytes ≡ header_field h ++ (names ++ (literals ++ instrs))

-- the bytes begin with an entry without an error
abbrev pub BeginsWith : {X : Type 0} → (X → Type 0) → (X → Text) → Text → Type 0
BeginsWith {X} IsGood field bytes = (x : X) × (rest : Text) × IsGood x × (bytes ≡ field x ++ rest)

-- the first entry with an error is at a place
pub record IsFirstBad {X : Type 0} (IsGood : X → Type 0) (entries : List X) (place : ℕ) : Type 0 where
  pub within : place < length entries
  pub before : All IsGood (take place entries)
  pub bad : HoldsAt (λ x. IsGood x → ⊥) entries place
