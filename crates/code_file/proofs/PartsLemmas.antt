-- Parts that are given as values, and the errors of the file that they would make.
use Rattle.std.proofs.Common.{◌≡◌, ◌<◌, ◌≤◌, ◌+◌, ◌*◌, ◌^◌, ◌⊎◌, ℕ, suc, true, false, List, [], ◌∷◌, ◌++◌, length, take, drop, refl, sym, ◌∙◌, ap, inl}
use Rattle.std.proofs.lemmas.Grind.{common_steps}
use Rattle.std.proofs.Common.{inr, append_assoc, arith, length-append, drop-cons, Some, None}
use Rattle.std.specs.Prelude.{All, min, Option, is_some, IfSome, IfNone}
use Rattle.std.specs.List.{flat_map, slice_index_or}
use Rattle.std.proofs.lemmas.Bool.{cases_lt}
use Rattle.std.proofs.lemmas.List.{take-append-drop, length-take-le}
use Rattle.std.proofs.lemmas.List.Concat.{flat_map-append}
use Rattle.std.proofs.lemmas.List.Elements.{All-nil, All-cons}
use Rattle.text_model.specs.Texts.{Text}
use Rattle.code_model.specs.Code.{Name, Literal, Code}
use Rattle.code_model.specs.declared.code.Instr.{Instr}
use Rattle.code_file.specs.declared.header.Header.{Header}
use Rattle.code_file.specs.declared.limits.TheConstants.{MAX_BYTES, MAX_NAME_BYTES}
use Rattle.code_file.specs.declared.error.CodeError.{CodeError}
use Rattle.code_file.specs.declared.error.CodeErrorKind.TheVariants.{BadName, BadLiteral}
use Rattle.code_file.specs.Grammar.{spelled, header_of, name_field, literal_field, instr_field, IsNameByte, IsVersion, IsCodeName, IsLiteral, IsHeader}
use Rattle.code_file.specs.Fault.{fault, after, IsFirstWrong, IsNameFault, IsLiteralFault, bad_length, bad_text, header_fault, IsTableFault, IsHeaderField}
use Rattle.code_file.specs.Fault.{in_names, in_literals, IsFirstFault, in_field}
use Rattle.code_file.specs.Private.Tables.{IsFirstBad}

pub length-instrs : (is : List Instr) → length (flat_map instr_field is) ≡ 8 * length is
length-instrs [] = refl
length-instrs (i ∷ is) = omega (arith, length-instrs is)

-- each entry has at least one byte
entries_le : {X : Type 0} (field : X → Text) → ((x : X) → 0 < length (field x)) → (xs : List X) → length xs ≤ length (flat_map field xs)
entries_le field some [] = omega arith
entries_le field some (x ∷ xs) =
    omega (arith, entries_le field some xs, some x, length-append (field x) (flat_map field xs))

pub header_small : (c : Code) → IsVersion c.version → length (spelled c) ≤ MAX_BYTES → IsHeaderField (header_of c)
header_small c known short = grind (arith, entries_le, length-append)

-- ---- the first error of a name and of a literal

is_name_byte_or_not : (b : ℕ) → IsNameByte b ⊎ (IsNameByte b → ⊥)
is_name_byte_or_not b = grind (arith, common_steps)

pub first_wrong_of : (text : Text) → All IsNameByte text ⊎ ((place : ℕ) × IsFirstWrong text place)
first_wrong_of [] = inl (All-nil IsNameByte)
first_wrong_of (b ∷ text) = elim (is_name_byte_or_not b) [
  | inr wrong ↦ inr (0, record { within = omega arith; before = All-nil IsNameByte; wrong = wrong })
  | inl good ↦ elim (first_wrong_of text) [
    | inl all ↦ inl (All-cons IsNameByte b text good all)
    | inr found ↦ inr (
      suc found.0,
      grind (arith, common_steps),
    )
  ]
]

name_fault_of : (n : Name) (rest : Text) → (IsCodeName n → ⊥) → (at : ℕ) × IsNameFault (name_field n ++ rest) (fault BadName at)
name_fault_of n rest bad = elim (cases_lt 0 (length n.text)) [
  | inr empty ↦ (1, bad_length n.list (length n.text) (n.text ++ rest) refl (λ p. omega (arith, p.0)))
  | inl some ↦ elim (cases_lt MAX_NAME_BYTES (length n.text)) [
    | inl long ↦ (1, bad_length n.list (length n.text) (n.text ++ rest) refl (λ p. omega (arith, p.1)))
    | inr short ↦ elim (first_wrong_of n.text) [
      | inl all ↦ absurd (bad (record { some = some; short = short; visible = all }))
      | inr found ↦ (2 + found.0, bad_text n rest found.0 refl (some, short) found.1)
    ]
  ]
]

literal_fault_of : (l : Literal) (rest : Text) → length l.bytes < 2 ^ 16 → (IsLiteral l → ⊥)
    → IsLiteralFault (literal_field l ++ rest) (fault BadLiteral 3)
literal_fault_of l rest short bad = bad_text l rest refl short (λ t. bad (record { short = short; text = t }))

-- ---- the first error of the file of parts

-- the first bad entry, after the valid ones and before the others
parted : {X : Type 0} (field : X → Text) (xs : List X) (place : ℕ) (d : X) → place < length xs
    → flat_map field xs ≡ flat_map field (take place xs) ++ (field (slice_index_or xs place d) ++ flat_map field (drop (suc place) xs))
parted field xs place d within =
    ap (flat_map field) (sym (take-append-drop place xs))
    ∙ flat_map-append field (take place xs) (drop place xs)
    ∙ ap (λ (l : List _). flat_map field (take place xs) ++ flat_map field l) (drop-cons xs place d within)

fault_of_table : {X : Type 0} (IsGood : X → Type 0) (field : X → Text) (IsFault : Text → CodeError → Type 0) (xs : List X) (d : X)
    (place : ℕ) (more : Text) (e : CodeError) → IsFirstBad IsGood xs place
    → IsFault (field (slice_index_or xs place d) ++ (flat_map field (drop (suc place) xs) ++ more)) e
    → IsTableFault IsGood field IsFault (length xs) (flat_map field xs ++ more) (after (length (flat_map field (take place xs))) e)
fault_of_table IsGood field IsFault xs d place more e first here = record {
  before = place;
  fewer = first.within;
  front = flat_map field (take place xs);
  rest = field (slice_index_or xs place d) ++ (flat_map field (drop (suc place) xs) ++ more);
  spells =
      ap (λ (t : Text). t ++ more) (parted field xs place d first.within)
      ∙ append_assoc (flat_map field (take place xs)) (field (slice_index_or xs place d) ++ flat_map field (drop (suc place) xs)) more
      ∙ ap (λ (t : Text). flat_map field (take place xs) ++ t)
      (append_assoc (field (slice_index_or xs place d)) (flat_map field (drop (suc place) xs)) more);
  table = (take place xs, record { good = first.before; counted = length-take-le place xs (omega (arith, first.within)); spells = refl });
  here = e;
  faulty = here;
  place = refl;
}

pub bad_name_in : (c : Code) (place : ℕ) → length (spelled c) ≤ MAX_BYTES → IsHeader (header_of c) → IsFirstBad IsCodeName c.names place
    → (at : ℕ) × IsFirstFault (spelled c) (fault BadName at)
bad_name_in c place short allowed first =
    let d : Name = record { list = false; text = [] } in
    let more = flat_map literal_field c.literals ++ flat_map instr_field c.instrs in
    let here = name_fault_of (slice_index_or c.names place d) (flat_map name_field (drop (suc place) c.names) ++ more) (first.bad d) in (
      10 + (length (flat_map name_field (take place c.names)) + here.0),
      in_field _ short
          (in_names (record { header = header_of c; rest = flat_map name_field c.names ++ more; allowed = allowed; spells = refl }) _
          (fault_of_table IsCodeName name_field IsNameFault c.names d place more _ first here.1)),
    )

pub bad_literal_in : (c : Code) (place : ℕ) → length (spelled c) ≤ MAX_BYTES → IsHeader (header_of c) → All IsCodeName c.names
    → IsFirstBad IsLiteral c.literals place → (at : ℕ) × IsFirstFault (spelled c) (fault BadLiteral at)
bad_literal_in c place short allowed names first =
    let d : Literal = record { compared = false; bytes = [] } in
    let more = flat_map instr_field c.instrs in
    let bad = slice_index_or c.literals place d in
    let long : length bad.bytes < 2 ^ 16 =
    omega (
      arith,
      short,
      length-append (flat_map name_field c.names) (flat_map literal_field c.literals ++ more),
      length-append (flat_map literal_field c.literals) more,
      ap length (parted literal_field c.literals place d first.within),
      length-append (flat_map literal_field (take place c.literals)) (literal_field bad ++ flat_map literal_field (drop (suc place) c.literals)),
      length-append bad.bytes (flat_map literal_field (drop (suc place) c.literals)),
    ) in
    let here = literal_fault_of bad (flat_map literal_field (drop (suc place) c.literals) ++ more) long (first.bad d) in (
      10 + length (flat_map name_field c.names) + (length (flat_map literal_field (take place c.literals)) + 3),
      in_field _ short
          (in_literals
          (record {
            header = header_of c;
            names = flat_map name_field c.names;
            rest = flat_map literal_field c.literals ++ more;
            allowed = allowed;
            name_table = (c.names, record { good = names; counted = refl; spells = refl });
            spells = refl;
          })
          _
          (fault_of_table IsLiteral literal_field IsLiteralFault c.literals d place more _ first here)),
    )

pub short_of_min : (n r : ℕ) → r ≡ min n 18446744073709551615 → r ≤ 65536 → n ≤ 65536
short_of_min n r h k = omega arith

pub long_of_min : (n r : ℕ) → r ≡ min n 18446744073709551615 → 65536 < r → 65536 < n
long_of_min n r h k = omega arith

pub allowed_header : (h : Header) → IsVersion h.version → header_fault h ≡ None → IsHeader h
allowed_header h known none = grind (arith, common_steps)

pub some_there : {X : Type 0} (o : Option X) (P : X → Type 0) → is_some o ≡ true → IfSome o P → (x : X) × P x
some_there (Some x) P h p = (x, p)
some_there None P h p = cc

pub none_there : {X : Type 0} (o : Option X) (P : Type 0) → is_some o ≡ false → IfNone o P → P
none_there (Some x) P h p = cc
none_there None P h p = p
