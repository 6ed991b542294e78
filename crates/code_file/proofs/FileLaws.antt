-- A file has one code or one first error, since each stage of reading has one result.
use Rattle.std.proofs.Common.{◌≡◌, ◌≤◌, ◌+◌, ◌*◌, ℕ, List, [], ◌∷◌, ◌++◌, length, refl, sym, ◌∙◌, ap, subst, arith, length-append, Option, None}
use Rattle.std.specs.Prelude.{Result, Ok, Err}
use Rattle.std.specs.List.{flat_map}
use Rattle.std.proofs.lemmas.List.{append-nil}
use Rattle.std.proofs.lemmas.Grind.{common_steps}
use Rattle.text_model.specs.Texts.{Text}
use Rattle.code_model.specs.Code.{Code}
use Rattle.code_file.specs.declared.header.Header.{Header}
use Rattle.code_file.specs.declared.limits.TheConstants.{MAX_BYTES}
use Rattle.code_file.specs.declared.error.CodeError.{CodeError}
use Rattle.code_file.specs.declared.error.CodeErrorKind.TheVariants.{Truncated, Trailing, NoMemory}
use Rattle.code_file.specs.Grammar.{header_of, name_field, literal_field, instr_field, IsCodeName, IsLiteral, IsHeader, IsCodeFile}
use Rattle.code_file.specs.Fault.{fault, after, header_fault, PastHeader, PastNames, PastLiterals, IsNameFault, IsLiteralFault, IsTable, IsTableFault}
use Rattle.code_file.specs.Fault.{IsFieldFault, bad_magic, no_counts, bad_counts, in_names, in_literals, in_instrs, trailing, IsFirstFault, too_long, in_field}
use Rattle.code_file.specs.Fault.{IsRefusal}
use Rattle.code_file.proofs.StageLemmas.{ReadsTable, found, faulty, Then, stops, continues}
use Rattle.code_file.proofs.PartsLemmas.{length-instrs}
use Rattle.code_file.proofs.ReadingStages.{outcome, ReadsHeader, no_magic, short_counts, counted, names_found, names_faulty, ReadsLiterals, literals_found}
use Rattle.code_file.proofs.ReadingStages.{literals_faulty, ReadsInstrs, too_few, too_many, whole, Reads, one_reading}

-- ---- a code, or an error, is the result of the stages

no_header_fault : (h : Header) → IsHeader h → header_fault h ≡ None
no_header_fault h a = grind (arith, common_steps)

header_read : (bytes : Text) (p : PastHeader bytes) → ReadsHeader bytes (Ok (p.header, p.rest))
unfolding outcome
header_read bytes p =
    let a = p.allowed in
    subst (ReadsHeader bytes) (ap (λ (o : Option CodeError). outcome o p.header p.rest) (no_header_fault p.header a))
    (counted (grind (arith, common_steps)))

table_found : {X : Type 0} (IsGood : X → Type 0) (field : X → Text) (IsFault : Text → CodeError → Type 0) (count : ℕ)
    (bytes rest : Text) (t : IsTable IsGood field count bytes) → ReadsTable IsGood field IsFault count (bytes ++ rest) (Ok (t.0, rest))
table_found IsGood field IsFault count bytes rest t =
    found t.0 rest t.1.good t.1.counted (ap (λ (b : Text). b ++ rest) t.1.spells)

table_faulty : {X : Type 0} (IsGood : X → Type 0) (field : X → Text) (IsFault : Text → CodeError → Type 0) (count : ℕ)
    (bytes : Text) (e : CodeError) → IsTableFault IsGood field IsFault count bytes e → ReadsTable IsGood field IsFault count bytes (Err e)
table_faulty {X = X} IsGood field IsFault count bytes e t =
    let place : after (length (flat_map field t.table.0)) t.here ≡ e = grind (arith, common_steps) in
    subst (λ (x : CodeError). let r : Result (List X × Text) CodeError = Err x in ReadsTable IsGood field IsFault count bytes r) place
    (faulty t.table.0 t.rest t.here t.table.1.good (omega (arith, t.table.1.counted, t.fewer))
    (t.spells ∙ ap (λ (b : Text). b ++ t.rest) t.table.1.spells) t.faulty)

names_read : (bytes : Text) (p : PastNames bytes) (r : Result Code CodeError)
    → Then ReadsLiterals ReadsInstrs (p.header, p.name_table.0, p.rest) r → Reads bytes r
names_read bytes p r more =
    continues (p.header, p.names ++ p.rest) r
    (header_read bytes (record { header = p.header; rest = p.names ++ p.rest; allowed = p.allowed; spells = p.spells }))
    (continues (p.header, p.name_table.0, p.rest) r
    (names_found p.name_table.0 p.rest (table_found IsCodeName name_field IsNameFault p.header.names p.names p.rest p.name_table)) more)

literals_read : (bytes : Text) (p : PastLiterals bytes) (r : Result Code CodeError)
    → ReadsInstrs (p.header, p.name_table.0, p.literal_table.0, p.rest) r → Reads bytes r
literals_read bytes p r more =
    names_read bytes
    (grind (arith, common_steps))
    r
    (continues (p.header, p.name_table.0, p.literal_table.0, p.rest) r
    (literals_found p.literal_table.0 p.rest
    (table_found IsLiteral literal_field IsLiteralFault p.header.literals p.literals p.rest p.literal_table)) more)

-- the tables of a code, with anything after them
abbrev past_literals : (bytes front following : Text) (c : Code) → IsCodeFile front c → bytes ≡ front ++ following → PastLiterals bytes
past_literals bytes front following c f h = record {
  header = header_of c;
  names = flat_map name_field c.names;
  literals = flat_map literal_field c.literals;
  rest = flat_map instr_field c.instrs ++ following;
  allowed = f.is_code.header;
  name_table = (c.names, record { good = f.is_code.names; counted = refl; spells = refl });
  literal_table = (c.literals, record { good = f.is_code.literals; counted = refl; spells = refl });
  spells = grind (arith, common_steps);
}

reads_code : (bytes : Text) (c : Code) → IsCodeFile bytes c → Reads bytes (Ok c)
reads_code bytes c f =
    literals_read bytes (past_literals bytes bytes [] c f (sym (append-nil bytes))) (Ok c)
    (whole c.instrs f.fields refl (append-nil (flat_map instr_field c.instrs)))

spelled_len : (front : Text) (c : Code) → IsCodeFile front c
    → length front ≡ 10 + length (flat_map name_field c.names) + length (flat_map literal_field c.literals) + 8 * length c.instrs
spelled_len front c f = grind (arith, length-append, length-instrs)

reads_fault : (bytes : Text) (e : CodeError) → IsFieldFault bytes e → Reads bytes (Err e)
unfolding outcome
reads_fault bytes e (bad_magic h) = stops _ (no_magic h)
reads_fault bytes e (no_counts p n) = stops _ (short_counts p n)
reads_fault bytes e (bad_counts p f g) =
    stops f (subst (ReadsHeader bytes) (ap (λ (o : Option CodeError). outcome o p.header p.rest) g) (counted p))
reads_fault bytes e (in_names p f t) =
    continues (p.header, p.rest) _ (header_read bytes p)
    (stops _ (names_faulty f (table_faulty IsCodeName name_field IsNameFault p.header.names p.rest f t)))
reads_fault bytes e (in_literals p f t) =
    let place : after (10 + length (flat_map name_field p.name_table.0)) f ≡ after (10 + length p.names) f = grind (arith, common_steps) in
    subst (λ (x : CodeError). Reads bytes (Err x)) place
    (names_read bytes p _
    (stops _ (literals_faulty f (table_faulty IsLiteral literal_field IsLiteralFault p.header.literals p.rest f t))))
reads_fault bytes e (in_instrs p few) =
    let place : 10 + length (flat_map name_field p.name_table.0) + length (flat_map literal_field p.literal_table.0) + length p.rest ≡ length bytes =
    grind (arith, common_steps) in
    subst (λ (k : ℕ). Reads bytes (Err (fault Truncated k))) place (literals_read bytes p _ (too_few few))
reads_fault bytes e (trailing front rest b c f h) =
    let place : 10 + length (flat_map name_field c.names) + length (flat_map literal_field c.literals) + 8 * length c.instrs ≡ length front =
    sym (spelled_len front c f) in
    subst (λ (k : ℕ). Reads bytes (Err (fault Trailing k))) place
    (literals_read bytes (past_literals bytes front (b ∷ rest) c f h) _
    (too_many (omega (arith, length-append (flat_map instr_field c.instrs) (b ∷ rest), length-instrs c.instrs))))

-- ---- the laws

pub file_one_code : (bytes : Text) (c d : Code) → IsCodeFile bytes c → IsCodeFile bytes d → c ≡ d
file_one_code bytes c d f g =
    let both = one_reading bytes (Ok c) (Ok d) (reads_code bytes c f) (reads_code bytes d g) in cc

short_file : (bytes : Text) (c : Code) → IsCodeFile bytes c → length bytes ≤ MAX_BYTES
short_file bytes c f = omega (arith, ap length f.spells, f.is_code.short)

pub file_no_fault : (bytes : Text) (c : Code) (e : CodeError) → IsCodeFile bytes c → IsFirstFault bytes e → ⊥
file_no_fault bytes c e f (too_long h) = omega (arith, short_file bytes c f)
file_no_fault bytes c e f (in_field x h g) =
    let both = one_reading bytes (Ok c) (Err x) (reads_code bytes c f) (reads_fault bytes x g) in cc

pub file_one_fault : (bytes : Text) (e f : CodeError) → IsFirstFault bytes e → IsFirstFault bytes f → e ≡ f
file_one_fault bytes e f (too_long h) (too_long g) = refl
file_one_fault bytes e f (too_long h) (in_field y g q) = absurd (omega arith)
file_one_fault bytes e f (in_field x h p) (too_long g) = absurd (omega arith)
file_one_fault bytes e f (in_field x h p) (in_field y g q) =
    let both = one_reading bytes (Err x) (Err y) (reads_fault bytes x p) (reads_fault bytes y q) in cc

pub written_is_read : (bytes : Text) (c : Code) → IsCodeFile bytes c
    → ((d : Code) → IsCodeFile bytes d → d ≡ c) × ((e : CodeError) → IsRefusal bytes e → e ≡ fault NoMemory 0)
written_is_read bytes c f = grind (arith, file_one_code, file_no_fault)
