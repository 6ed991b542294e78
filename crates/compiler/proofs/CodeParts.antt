-- The parts of the code of rules: the size of their file, and that a code file may have them if they are within the limits.
use Rattle.std.proofs.Common.{◌≡◌, ℕ, suc, ◌+◌, ◌^◌, ◌<◌, ◌≤◌, List, [], ◌∷◌, ◌++◌, length, Bool, true, false, Some, refl, ap, inl, inr, arith}
use Rattle.std.proofs.Common.{length-append}
use Rattle.std.specs.Prelude.{All, min, not, sum_by, slice_get, if◌then◌else◌}
use Rattle.std.specs.List.{flat_map}
use Rattle.std.specs.Str.{IsUtf8}
use Rattle.std.proofs.lemmas.Bool.{cases_lt}
use Rattle.std.proofs.lemmas.List.Elements.{All-nil, All-cons, All-head, All-tail, All-weaker}
use Rattle.std.proofs.lemmas.List.Sums.{sum_by-cons}
use Rattle.text_model.specs.Texts.{Text}
use Rattle.text_model.specs.UriText.{IsUriText}
use Rattle.code_model.specs.Code.{Name, Literal, Code}
use Rattle.code_model.specs.declared.code.Instr.{Instr}
use Rattle.code_file.specs.declared.error.CodeError.{CodeError}
use Rattle.code_file.specs.Grammar.{spelled, name_field, literal_field, instr_field, IsVersion, IsTextOf, IsCodeName, IsLiteral, IsInstr, IsCode}
use Rattle.code_file.specs.Grammar.{IsCodeFile, code_with}
use Rattle.code_file.specs.Fault.{IsFirstFault}
use Rattle.code_file.specs.declared.limits.TheConstants.{MAX_BYTES, MAX_NAMES, MAX_LITERALS, MAX_INSTRS}
use Rattle.code_file.proofs.PartsLemmas.{length-instrs}
use Rattle.machine_model.specs.Operands.{is_link_text, text_of_literal}
use Rattle.machine_model.specs.Safe.{IsFileCode}
use Rattle.uri_grammar.specs.Names.{IsName}
use Rattle.rule_parser.specs.Rules.{RuleSet}
use Rattle.compiler_model.specs.Compiled.{has_counts, code_of}
use Rattle.compiler_model.specs.Size.{file_size}
use Rattle.compiler.specs.Private.Growth.{IsUtf8Literal}
use Rattle.compiler.specs.Limits.{first_passed}
use Rattle.compiler.specs.declared.error.CompileError.TheVariants.{FileTooLong}
use Rattle.compiler.proofs.NameBytes.{file_name}

-- ---- the size of the file

length-names : (names : List Name) → length (flat_map name_field names) ≡ sum_by (λ (name : Name). 2 + length name.text) names
length-names [] = refl
length-names (n ∷ names) =
    omega (arith, length-names names, length-append n.text (flat_map name_field names), sum_by-cons (λ (name : Name). 2 + length name.text) n names)

length-literals : (literals : List Literal) → length (flat_map literal_field literals) ≡ sum_by (λ (literal : Literal). 3 + length literal.bytes) literals
length-literals [] = refl
length-literals (l ∷ literals) =
    omega (
      arith,
      length-literals literals,
      length-append l.bytes (flat_map literal_field literals),
      sum_by-cons (λ (literal : Literal). 3 + length literal.bytes) l literals,
    )

pub length-spelled : (c : Code) → length (spelled c) ≡ file_size c
length-spelled c =
    omega (
      arith,
      length-append (flat_map name_field c.names) (flat_map literal_field c.literals ++ flat_map instr_field c.instrs),
      length-append (flat_map literal_field c.literals) (flat_map instr_field c.instrs),
      length-names c.names,
      length-literals c.literals,
      length-instrs c.instrs,
    )

-- ---- a code file may have them

text_of_kind : (compared : Bool) (text : Text) → IsUtf8 text → (not compared ≡ true → IsUriText text) → IsTextOf compared text
text_of_kind true text utf8 uri = utf8
text_of_kind false text utf8 uri = uri refl

good_literals : (ls : List Literal) → length (flat_map literal_field ls) < 2 ^ 16 → All IsUtf8Literal ls
    → ((n : ℕ) → is_link_text (slice_get ls n) ≡ true → IsUriText (text_of_literal (slice_get ls n))) → All IsLiteral ls
good_literals [] short utf8 links = All-nil IsLiteral
good_literals (l ∷ ls) short utf8 links =
    let size = length-append l.bytes (flat_map literal_field ls) in
    All-cons IsLiteral l ls
    (record { short = omega (arith, short, size); text = text_of_kind l.compared l.bytes (All-head IsUtf8Literal l ls utf8) (links 0) })
    (good_literals ls (omega (arith, short, size)) (All-tail IsUtf8Literal l ls utf8) (λ n. links (suc n)))

pub is_code : (c : Code) → IsVersion c.version → IsFileCode c → All (λ (name : Name). IsName name.text) c.names → All IsUtf8Literal c.literals
    → length c.names ≤ MAX_NAMES → length c.literals ≤ MAX_LITERALS → length c.instrs ≤ MAX_INSTRS → length (spelled c) ≤ MAX_BYTES → IsCode c
is_code c version file names utf8 few_names few_literals few_instrs short =
    let front = length-append (flat_map name_field c.names) (flat_map literal_field c.literals ++ flat_map instr_field c.instrs) in
    let back = length-append (flat_map literal_field c.literals) (flat_map instr_field c.instrs) in
    record {
      header = record { version = version; names = few_names; literals = few_literals; some = file.some; instrs = few_instrs };
      names = All-weaker (λ (name : Name). IsName name.text) IsCodeName file_name c.names names;
      literals = good_literals c.literals (omega (arith, short, front, back)) utf8 file.links;
      short = short;
    }

-- the parts of the rules' code make that code
pub whole_code : (rules : RuleSet) (counts : Bool) (names : List Name) (literals : List Literal) (instrs : List Instr) → counts ≡ has_counts rules
    → names ≡ (code_of rules).names → literals ≡ (code_of rules).literals → instrs ≡ (code_of rules).instrs
    → code_with (if counts then 2 else 1) names literals instrs ≡ code_of rules
whole_code rules counts names literals instrs b n l i = λ t. code_with (if b t then 2 else 1) (n t) (l t) (i t)

pub known_version : (b : Bool) → IsVersion (if b then 2 else 1)
known_version true = inr refl
known_version false = inl refl

-- parts whose only error is the length of the file are rejected for the length
pub refused_long : ((bytes : Text) (c : Code) (e : CodeError) → IsCodeFile bytes c → IsFirstFault bytes e → ⊥) → (c : Code) (e : CodeError)
    → (length (spelled c) ≤ MAX_BYTES → IsCode c) → All IsInstr c.instrs → IsFirstFault (spelled c) e → MAX_BYTES < file_size c
refused_long no_fault c e good fields fault = elim (cases_lt MAX_BYTES (length (spelled c))) [
  | inl long ↦ omega (arith, length-spelled c)
  | inr short ↦ absurd (no_fault (spelled c) c e (record { is_code = good short; fields = fields; spells = refl }) fault)
]

-- ---- the limits

pub file_passed : (names literals instrs bytes : ℕ) → names ≤ MAX_NAMES → literals ≤ MAX_LITERALS → instrs ≤ MAX_INSTRS
    → MAX_BYTES < bytes → first_passed names literals instrs bytes ≡ Some FileTooLong
file_passed names literals instrs bytes n l i b = grind arith

-- a count that stops at the largest number exceeds the limit exactly if the whole count does
pub counted : (names literals lines n bytes : ℕ) → lines ≡ min n 18446744073709551615 → first_passed names literals lines bytes
    ≡ first_passed names literals n bytes
counted names literals lines n bytes e = elim (cases_lt MAX_INSTRS n) [
  | inl many ↦ grind arith
  | inr few ↦ let same : lines ≡ n = omega arith in ap (λ k. first_passed names literals k bytes) same
]
