-- A file is read in stages, each of which has one result: its header, the tables, and the end.
use Rattle.std.proofs.Common.{◌≡◌, ◌<◌, ◌+◌, ◌*◌, ℕ, List, [], ◌++◌, length, refl, sym, ◌∙◌, ap, append_assoc, arith, Option, Some, None}
use Rattle.std.specs.Prelude.{All, Result, Ok, Err}
use Rattle.std.specs.List.{flat_map}
use Rattle.std.proofs.lemmas.Grind.{common_steps}
use Rattle.std.proofs.lemmas.List.{append-nil}
use Rattle.text_model.specs.Texts.{Text}
use Rattle.code_model.specs.Code.{Name, Literal, Code}
use Rattle.code_model.specs.declared.code.Instr.{Instr}
use Rattle.code_file.specs.declared.header.Header.{Header}
use Rattle.code_file.specs.declared.error.CodeError.{CodeError}
use Rattle.code_file.specs.declared.error.CodeErrorKind.TheVariants.{BadMagic, Truncated, Trailing}
use Rattle.code_file.specs.Grammar.{magic, number, header_field, code_with, name_field, literal_field, instr_field, IsCodeName, IsLiteral, IsInstr}
use Rattle.code_file.specs.Fault.{fault, cut_short, after, header_fault, IsHeaderField, PastMagic, PastCounts, IsNameFault, IsLiteralFault}
use Rattle.code_file.proofs.StageLemmas.{IsApart, ReadsTable, one_table, same_entries, IsOne, Then, then_one}
use Rattle.code_file.proofs.NameLaws.{names_apart}
use Rattle.code_file.proofs.LiteralLaws.{literals_apart}
use Rattle.code_file.proofs.PartsLemmas.{length-instrs}

-- ---- the header

unfoldable pub outcome : Option CodeError → Header → Text → Result (Header × Text) CodeError
outcome (Some e) h rest = Err e
outcome None h rest = Ok (h, rest)

pub data ReadsHeader (bytes : Text) : Result (Header × Text) CodeError → Type 0 where
  no_magic : (PastMagic bytes → ⊥) → ReadsHeader bytes (Err (fault BadMagic 0))
  short_counts : (p : PastMagic bytes) → length p.rest < 6 → ReadsHeader bytes (Err (cut_short bytes))
  counted : (p : PastCounts bytes) → ReadsHeader bytes (outcome (header_fault p.header) p.header p.rest)

same_magic : (v w : ℕ) (s t : Text) → magic v ++ s ≡ magic w ++ t → (v ≡ w) × (s ≡ t)
same_magic v w s t h = grind (arith, common_steps)

same_header : (h k : Header) (s t : Text) → IsHeaderField h → IsHeaderField k → header_field h ++ s ≡ header_field k ++ t → (h ≡ k) × (s ≡ t)
same_header h k s t p q same = grind (arith, common_steps)

-- what comes after the magic
abbrev past_magic : {bytes : Text} → PastCounts bytes → PastMagic bytes
past_magic p = record {
  version = p.header.version;
  rest = number p.header.names ++ (number p.header.literals ++ (number p.header.instrs ++ p.rest));
  known = p.numbers.version;
  spells = p.spells ∙ append_assoc (magic p.header.version) (number p.header.names ++ (number p.header.literals ++ number p.header.instrs)) p.rest;
}

one_magic : {bytes : Text} (p q : PastMagic bytes) → p.rest ≡ q.rest
one_magic p q = (same_magic p.version q.version p.rest q.rest (sym p.spells ∙ q.spells)).1

one_header : IsOne ReadsHeader
one_header bytes r q (no_magic h) (no_magic g) = refl
one_header bytes r q (no_magic h) (short_counts p n) = absurd (h p)
one_header bytes r q (no_magic h) (counted p) = absurd (h (past_magic p))
one_header bytes r q (short_counts p n) (no_magic g) = absurd (g p)
one_header bytes r q (short_counts p n) (short_counts o m) = refl
one_header bytes r q (short_counts p n) (counted o) = absurd (omega (arith, ap length (one_magic p (past_magic o))))
one_header bytes r q (counted p) (no_magic g) = absurd (g (past_magic p))
one_header bytes r q (counted p) (short_counts o n) = absurd (omega (arith, ap length (one_magic o (past_magic p))))
one_header bytes r q (counted p) (counted o) =
    let both = same_header p.header o.header p.rest o.rest p.numbers o.numbers (sym p.spells ∙ o.spells) in
    ap (λ (x : Header). outcome (header_fault x) x p.rest) both.0 ∙ ap (λ (x : Text). outcome (header_fault o.header) o.header x) both.1

-- ---- the tables

abbrev Names : Type 0
Names = Header × List Name × Text

abbrev Literals : Type 0
Literals = Header × List Name × List Literal × Text

pub data ReadsNames (s : Header × Text) : Result Names CodeError → Type 0 where
  names_found : (ns : List Name) (rest : Text) → ReadsTable IsCodeName name_field IsNameFault s.0.names s.1 (Ok (ns, rest))
      → ReadsNames s (Ok (s.0, ns, rest))
  names_faulty : (e : CodeError) → ReadsTable IsCodeName name_field IsNameFault s.0.names s.1 (Err e) → ReadsNames s (Err (after 10 e))

one_names : IsOne ReadsNames
one_names s r q (names_found ns x h) (names_found ms y g) = grind (arith, one_table, names_apart)
one_names s r q (names_found ns x h) (names_faulty e g) =
    let both = one_table IsCodeName name_field IsNameFault names_apart s.0.names s.1 _ _ h g in cc
one_names s r q (names_faulty e g) (names_found ns x h) =
    let both = one_table IsCodeName name_field IsNameFault names_apart s.0.names s.1 _ _ h g in cc
one_names s r q (names_faulty e h) (names_faulty f g) = grind (arith, one_table, names_apart)

pub data ReadsLiterals (s : Names) : Result Literals CodeError → Type 0 where
  literals_found : (ls : List Literal) (rest : Text) → ReadsTable IsLiteral literal_field IsLiteralFault s.0.literals s.2 (Ok (ls, rest))
      → ReadsLiterals s (Ok (s.0, s.1, ls, rest))
  literals_faulty : (e : CodeError) → ReadsTable IsLiteral literal_field IsLiteralFault s.0.literals s.2 (Err e)
      → ReadsLiterals s (Err (after (10 + length (flat_map name_field s.1)) e))

one_literals : IsOne ReadsLiterals
one_literals s r q (literals_found ns x h) (literals_found ms y g) = grind (arith, one_table, literals_apart)
one_literals s r q (literals_found ns x h) (literals_faulty e g) =
    let both = one_table IsLiteral literal_field IsLiteralFault literals_apart s.0.literals s.2 _ _ h g in cc
one_literals s r q (literals_faulty e g) (literals_found ns x h) =
    let both = one_table IsLiteral literal_field IsLiteralFault literals_apart s.0.literals s.2 _ _ h g in cc
one_literals s r q (literals_faulty e h) (literals_faulty f g) = grind (arith, one_table, literals_apart)

-- ---- the instructions, and the end

no_instr_fault : Text → CodeError → Type 0
no_instr_fault bytes e = ⊥

instrs_apart : IsApart IsInstr instr_field no_instr_fault
unfolding no_instr_fault
instrs_apart = grind (arith, common_steps)

-- the bytes before the instructions
abbrev front_len : Literals → ℕ
front_len s = 10 + length (flat_map name_field s.1) + length (flat_map literal_field s.2)

pub data ReadsInstrs (s : Literals) : Result Code CodeError → Type 0 where
  too_few : length s.3 < 8 * s.0.instrs → ReadsInstrs s (Err (fault Truncated (front_len s + length s.3)))
  too_many : 8 * s.0.instrs < length s.3 → ReadsInstrs s (Err (fault Trailing (front_len s + 8 * s.0.instrs)))
  whole : (is : List Instr) → All IsInstr is → length is ≡ s.0.instrs → s.3 ≡ flat_map instr_field is
      → ReadsInstrs s (Ok (code_with s.0.version s.1 s.2 is))

one_instrs : IsOne ReadsInstrs
one_instrs s r q (too_few h) (too_few g) = refl
one_instrs s r q (too_few h) (too_many g) = absurd (omega arith)
one_instrs s r q (too_few h) (whole is g n e) = absurd (omega (arith, length-instrs is, ap length e))
one_instrs s r q (too_many h) (too_few g) = absurd (omega arith)
one_instrs s r q (too_many h) (too_many g) = refl
one_instrs s r q (too_many h) (whole is g n e) = absurd (omega (arith, length-instrs is, ap length e))
one_instrs s r q (whole is g n e) (too_few h) = absurd (omega (arith, length-instrs is, ap length e))
one_instrs s r q (whole is g n e) (too_many h) = absurd (omega (arith, length-instrs is, ap length e))
one_instrs s r q (whole is g n e) (whole js h m f) =
    let same =
    same_entries IsInstr instr_field no_instr_fault instrs_apart is js [] [] g h
    (append-nil (flat_map instr_field is) ∙ sym e ∙ f ∙ sym (append-nil (flat_map instr_field js))) (n ∙ sym m) in
    ap (λ (l : List Instr). let a : Result Code CodeError = Ok (code_with s.0.version s.1 s.2 l) in a) same.0

-- ---- all stages

abbrev pub Reads : Text → Result Code CodeError → Type 0
Reads bytes r = Then ReadsHeader (Then ReadsNames (Then ReadsLiterals ReadsInstrs)) bytes r

pub one_reading : (bytes : Text) (r q : Result Code CodeError) → Reads bytes r → Reads bytes q → r ≡ q
one_reading =
    then_one ReadsHeader (Then ReadsNames (Then ReadsLiterals ReadsInstrs)) one_header
    (then_one ReadsNames (Then ReadsLiterals ReadsInstrs) one_names (then_one ReadsLiterals ReadsInstrs one_literals one_instrs))
