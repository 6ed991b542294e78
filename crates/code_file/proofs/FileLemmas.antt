-- A whole file, and its code.
use Rattle.std.proofs.Common.{◌≡◌, ◌<◌, ◌≤◌, ◌+◌, ◌*◌, ◌-◌, ℕ, zero, suc, false, List, [], ◌∷◌, ◌++◌, length, take, drop, get_or, sym, ◌∙◌, ap}
use Rattle.std.proofs.lemmas.Grind.{common_steps}
use Rattle.std.proofs.Common.{subst, arith, length-append}
use Rattle.std.specs.Prelude.{◌==◌}
use Rattle.std.proofs.lemmas.List.{nil_from_length, take-append-drop}
use Rattle.text_model.specs.Texts.{Text}
use Rattle.code_model.specs.Code.{Name, Literal, Code}
use Rattle.code_model.specs.declared.code.Instr.{Instr}
use Rattle.code_file.specs.declared.header.Header.{Header}
use Rattle.code_file.specs.declared.limits.TheConstants.{MAX_BYTES}
use Rattle.code_file.specs.declared.error.CodeErrorKind.TheVariants.{Trailing}
use Rattle.code_file.specs.Grammar.{number, header_field, name_field, literal_field, instr_field, IsCodeName, IsLiteral, IsInstr, IsCodeFile}
use Rattle.code_file.specs.Fault.{fault, IsTableOf, IsTable, IsFieldFault, trailing}
use Rattle.code_file.specs.Private.Tables.{AreTables}
use Rattle.code_file.proofs.TableLemmas.{table_none, table_cons}

-- ---- bytes

abbrev pub AreBytes : Text → Type 0
AreBytes bytes = (i : ℕ) → get_or bytes i 0 < 256

pub bytes_right : (front back : Text) → AreBytes (front ++ back) → AreBytes back
bytes_right [] back h = h
bytes_right (b ∷ front) back h = bytes_right front back (λ i. h (suc i))

pub bytes_left : (front back : Text) → AreBytes (front ++ back) → AreBytes front
bytes_left [] back h i = omega arith
bytes_left (b ∷ front) back h zero = h 0
bytes_left (b ∷ front) back h (suc i) = bytes_left front back (λ j. h (suc j)) i

-- two bytes are the encoding of their number
pub number_of_bytes : (high low : ℕ) → high < 256 → low < 256 → number (256 * high + low) ≡ high ∷ low ∷ []
number_of_bytes high low h l = grind (arith, common_steps)

pub number_small : (high low : ℕ) → high < 256 → low < 256 → 256 * high + low < 65536
number_small high low h l = omega arith

-- eight bytes encode an instruction
one_instr : (op a b b' c c' d d' : ℕ) (rest : Text) → AreBytes (op ∷ a ∷ b ∷ b' ∷ c ∷ c' ∷ d ∷ d' ∷ rest)
    → (i : Instr) × IsInstr i × (op ∷ a ∷ b ∷ b' ∷ c ∷ c' ∷ d ∷ d' ∷ rest ≡ instr_field i ++ rest)
one_instr op a b b' c c' d d' rest h =
    let i : Instr = record { op = op; a = a; b = 256 * b + b'; c = 256 * c + c'; d = 256 * d + d' } in
    let p = number_of_bytes b b' (h 2) (h 3) in
    let q = number_of_bytes c c' (h 4) (h 5) in
    let r = number_of_bytes d d' (h 6) (h 7) in (
      i,
      record { op = h 0; a = h 1; b = number_small b b' (h 2) (h 3); c = number_small c c' (h 4) (h 5); d = number_small d d' (h 6) (h 7) },
      ap (λ (t : Text). op ∷ a ∷ (t ++ (c ∷ c' ∷ d ∷ d' ∷ rest))) (sym p)
          ∙ ap (λ (t : Text). op ∷ a ∷ (number (256 * b + b') ++ (t ++ (d ∷ d' ∷ rest)))) (sym q)
          ∙ ap (λ (t : Text). op ∷ a ∷ (number (256 * b + b') ++ (number (256 * c + c') ++ (t ++ rest)))) (sym r),
    )

pub instrs_of : (n : ℕ) (bytes : Text) → length bytes ≡ 8 * n → AreBytes bytes → IsTable IsInstr instr_field n bytes
instrs_of zero bytes h f =
    subst (IsTable IsInstr instr_field 0) (sym (nil_from_length bytes (omega arith))) (table_none IsInstr instr_field)
instrs_of (suc n) [] h f = absurd (omega arith)
instrs_of (suc n) (op ∷ []) h f = absurd (omega arith)
instrs_of (suc n) (op ∷ a ∷ []) h f = absurd (omega arith)
instrs_of (suc n) (op ∷ a ∷ b ∷ []) h f = absurd (omega arith)
instrs_of (suc n) (op ∷ a ∷ b ∷ b' ∷ []) h f = absurd (omega arith)
instrs_of (suc n) (op ∷ a ∷ b ∷ b' ∷ c ∷ []) h f = absurd (omega arith)
instrs_of (suc n) (op ∷ a ∷ b ∷ b' ∷ c ∷ c' ∷ []) h f = absurd (omega arith)
instrs_of (suc n) (op ∷ a ∷ b ∷ b' ∷ c ∷ c' ∷ d ∷ []) h f = absurd (omega arith)
instrs_of (suc n) (op ∷ a ∷ b ∷ b' ∷ c ∷ c' ∷ d ∷ d' ∷ rest) h f =
    let one = one_instr op a b b' c c' d d' rest f in
    let more = instrs_of n rest (omega arith) (λ i. f (suc (suc (suc (suc (suc (suc (suc (suc i))))))))) in
    (one.0 ∷ more.0, table_cons IsInstr instr_field n rest _ more.0 more.1 one.0 one.1 one.2)

-- ---- tables and code

pub code_file_of : (bytes : Text) (h : Header) (names literals instrs : Text) → AreTables bytes h names literals instrs
    → length bytes ≤ MAX_BYTES → (ns : List Name) → IsTableOf IsCodeName name_field h.names names ns
    → (ls : List Literal) → IsTableOf IsLiteral literal_field h.literals literals ls
    → (is : List Instr) → IsTableOf IsInstr instr_field h.instrs instrs is
    → IsCodeFile bytes (record { version = h.version; names = ns; literals = ls; instrs = is })
code_file_of bytes h names literals instrs t short ns n ls l is i = grind (arith, common_steps)

-- tables are those of a code
pub code_of_tables : (bytes : Text) (h : Header) (names literals instrs : Text) → AreTables bytes h names literals instrs
    → length bytes ≤ MAX_BYTES → AreBytes bytes → (code : Code) × IsCodeFile bytes code
code_of_tables bytes h names literals instrs t short fits =
    let following = bytes_right (header_field h) (names ++ (literals ++ instrs)) (subst AreBytes t.spells fits) in
    let last = bytes_right literals instrs (bytes_right names (literals ++ instrs) following) in
    let is = instrs_of h.instrs instrs t.room last in (
      record { version = h.version; names = t.name_table.0; literals = t.literal_table.0; instrs = is.0 },
      code_file_of bytes h names literals instrs t short t.name_table.0 t.name_table.1 t.literal_table.0 t.literal_table.1 is.0 is.1,
    )

-- bytes after the last table
pub trailing_here : (bytes front rest : Text) (k : Header) (names literals instrs : Text) → AreTables front k names literals instrs
    → bytes ≡ front ++ rest → 0 < length rest → length bytes ≤ MAX_BYTES → AreBytes bytes
    → IsFieldFault bytes (fault Trailing (length bytes - length rest))
trailing_here bytes front [] k names literals instrs t h some short fits = absurd (omega arith)
trailing_here bytes front (b ∷ rest) k names literals instrs t h some short fits =
    let len : length bytes ≡ length front + length (b ∷ rest) = ap length h ∙ length-append front (b ∷ rest) in
    let found = code_of_tables front k names literals instrs t (omega arith) (bytes_left front (b ∷ rest) (subst AreBytes h fits)) in
    let place : length front ≡ length bytes - length (b ∷ rest) = omega (arith, len) in
    subst (λ (n : ℕ). IsFieldFault bytes (fault Trailing n)) place (trailing front rest b found.0 found.1 h)

-- ---- how a reader's pieces join

pub five_parts : (bytes head rest1 names rest2 literals rest3 instrs rest4 : Text) → bytes ≡ head ++ rest1 → rest1 ≡ names ++ rest2
    → rest2 ≡ literals ++ rest3 → rest3 ≡ instrs ++ rest4 → bytes ≡ (head ++ (names ++ (literals ++ instrs))) ++ rest4
five_parts bytes head rest1 names rest2 literals rest3 instrs rest4 p q r s = grind (arith, common_steps)

pub cut_in_two : (n : ℕ) (text front back : Text) → front ≡ take n text → back ≡ drop n text → text ≡ front ++ back
cut_in_two n text front back p q = rw (p, q) (sym (take-append-drop n text))

pub not_empty : (text : Text) → (length text == 0) ≡ false → 0 < length text
not_empty [] h = cc
not_empty (b ∷ text) h = omega arith
