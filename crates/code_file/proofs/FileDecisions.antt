-- Any bytes have a code or a first error: each field is valid or has an error, from the first to the last.
use Rattle.std.proofs.Common.{◌≡◌, ◌<◌, ◌≤◌, ◌+◌, ◌*◌, ◌⊎◌, ℕ, [], ◌∷◌, ◌++◌, length, take, drop, refl, sym, ◌∙◌, ap, subst, inl, inr, arith, Option, Some}
use Rattle.std.proofs.lemmas.Grind.{common_steps}
use Rattle.std.proofs.Common.{None}
use Rattle.std.specs.Prelude.{All}
use Rattle.std.proofs.lemmas.Bool.{cases_lt, cases_eq}
use Rattle.std.proofs.lemmas.List.{take-append-drop}
use Rattle.text_model.specs.Texts.{Text}
use Rattle.code_model.specs.Code.{Code}
use Rattle.code_file.specs.declared.limits.TheConstants.{MAX_BYTES}
use Rattle.code_file.specs.declared.error.CodeError.{CodeError}
use Rattle.code_file.specs.Grammar.{digit_byte, magic, number, name_field, literal_field, header_field, IsVersion, IsCodeName, IsLiteral, IsCodeFile}
use Rattle.code_file.specs.Fault.{IsNameFault, IsLiteralFault, header_fault, PastMagic, PastCounts, PastHeader, PastNames, PastLiterals, IsFieldFault}
use Rattle.code_file.specs.Fault.{bad_magic, no_counts, bad_counts, in_names, in_literals, in_instrs, IsFirstFault, too_long, in_field}
use Rattle.code_file.specs.Private.Tables.{AreTables}
use Rattle.code_file.proofs.FileLemmas.{AreBytes, bytes_right, number_of_bytes, number_small, code_of_tables, trailing_here, five_parts}
use Rattle.code_file.proofs.PartsLemmas.{allowed_header}
use Rattle.code_file.proofs.EntryDecisions.{name_or_fault, literal_or_fault, table_or_fault}

-- ---- the magic

past_magic : (version d : ℕ) (rest : Text) → IsVersion version → d ≡ digit_byte version
    → PastMagic (79 ∷ 76 ∷ 75 ∷ d ∷ rest) ⊎ (PastMagic (79 ∷ 76 ∷ 75 ∷ d ∷ rest) → ⊥)
past_magic version d rest known h =
    inl (record { version = version; rest = rest; known = known; spells = ap (λ (x : ℕ). 79 ∷ 76 ∷ 75 ∷ x ∷ rest) h })

no_version : (d : ℕ) (rest : Text) → (d ≡ 49 → ⊥) → (d ≡ 50 → ⊥) → PastMagic (79 ∷ 76 ∷ 75 ∷ d ∷ rest) → ⊥
no_version d rest one two p = grind (arith, common_steps)

version_or_not : (d : ℕ) (rest : Text) → PastMagic (79 ∷ 76 ∷ 75 ∷ d ∷ rest) ⊎ (PastMagic (79 ∷ 76 ∷ 75 ∷ d ∷ rest) → ⊥)
version_or_not d rest = elim (cases_eq d 49) [
  | inl one ↦ past_magic 1 d rest (inl refl) one
  | inr other ↦ elim (cases_eq d 50) [
    | inl two ↦ past_magic 2 d rest (inr refl) two
    | inr none ↦ inr (no_version d rest other none)
  ]
]

magic_or_not : (bytes : Text) → PastMagic bytes ⊎ (PastMagic bytes → ⊥)
magic_or_not [] = inr (λ p. let h = p.spells in cc)
magic_or_not (a ∷ []) = inr (λ p. let h = p.spells in cc)
magic_or_not (a ∷ b ∷ []) = inr (λ p. let h = p.spells in cc)
magic_or_not (a ∷ b ∷ c ∷ []) = inr (λ p. let h = p.spells in cc)
magic_or_not (a ∷ b ∷ c ∷ d ∷ rest) = elim (cases_eq a 79) [
  | inr differs ↦ inr (λ p. differs (let h = p.spells in cc))
  | inl first ↦ elim (cases_eq b 76) [
    | inr differs ↦ inr (λ p. differs (let h = p.spells in cc))
    | inl second ↦ elim (cases_eq c 75) [
      | inr differs ↦ inr (λ p. differs (let h = p.spells in cc))
      | inl third ↦ rw (first, second, third) (version_or_not d rest)
    ]
  ]
]

-- ---- the fields of a file, one after another

abbrev IsAnswered : Text → Type 0
IsAnswered bytes = ((c : Code) × IsCodeFile bytes c) ⊎ ((e : CodeError) × IsFieldFault bytes e)

counts_here : {bytes : Text} (version : ℕ) (rest : Text) → IsVersion version → bytes ≡ magic version ++ rest → AreBytes rest
    → PastCounts bytes ⊎ (length rest < 6)
counts_here version [] known h fits = inr (omega arith)
counts_here version (n ∷ []) known h fits = inr (omega arith)
counts_here version (n ∷ n' ∷ []) known h fits = inr (omega arith)
counts_here version (n ∷ n' ∷ l ∷ []) known h fits = inr (omega arith)
counts_here version (n ∷ n' ∷ l ∷ l' ∷ []) known h fits = inr (omega arith)
counts_here version (n ∷ n' ∷ l ∷ l' ∷ i ∷ []) known h fits = inr (omega arith)
counts_here version (n ∷ n' ∷ l ∷ l' ∷ i ∷ i' ∷ rest) known h fits =
    inl (record {
      header = record { version = version; names = 256 * n + n'; literals = 256 * l + l'; instrs = 256 * i + i' };
      rest = rest;
      numbers = record {
        version = known;
        names = number_small n n' (fits 0) (fits 1);
        literals = number_small l l' (fits 2) (fits 3);
        instrs = number_small i i' (fits 4) (fits 5);
      };
      spells =
          h
          ∙ ap (λ (t : Text). magic version ++ (t ++ (l ∷ l' ∷ i ∷ i' ∷ rest))) (sym (number_of_bytes n n' (fits 0) (fits 1)))
          ∙ ap (λ (t : Text). magic version ++ (number (256 * n + n') ++ (t ++ (i ∷ i' ∷ rest)))) (sym (number_of_bytes l l' (fits 2) (fits 3)))
          ∙ ap (λ (t : Text). magic version ++ (number (256 * n + n') ++ (number (256 * l + l') ++ (t ++ rest))))
          (sym (number_of_bytes i i' (fits 4) (fits 5)));
    })

-- the bytes after the tables of names and of literals
instrs_here : (bytes : Text) → AreBytes bytes → length bytes ≤ MAX_BYTES → PastLiterals bytes → IsAnswered bytes
instrs_here bytes fits short p =
    let room = 8 * p.header.instrs in
    let instrs = take room p.rest in
    let following = drop room p.rest in
    let front = header_field p.header ++ (p.names ++ (p.literals ++ instrs)) in
    let spells : bytes ≡ front ++ following =
    five_parts bytes (header_field p.header) (p.names ++ (p.literals ++ p.rest)) p.names (p.literals ++ p.rest) p.literals p.rest instrs following
    p.spells refl refl (sym (take-append-drop room p.rest)) in
    elim (cases_lt (length p.rest) room) [
      | inl few ↦ inr (_, in_instrs p few)
      | inr enough ↦
          let tables : AreTables front p.header p.names p.literals instrs = grind (arith, common_steps) in
          elim (cases_lt 0 (length following)) [
            | inl some ↦ inr (_, trailing_here bytes front following p.header p.names p.literals instrs tables spells some short fits)
            | inr none ↦
                let same : front ≡ bytes = grind (arith, common_steps) in
                inl (code_of_tables bytes p.header p.names p.literals instrs
                (subst (λ (t : Text). AreTables t p.header p.names p.literals instrs) same tables) short fits)
          ]
    ]

literals_here : (bytes : Text) → AreBytes bytes → length bytes ≤ MAX_BYTES → (p : PastNames bytes) → AreBytes p.rest → IsAnswered bytes
literals_here bytes fits short p following =
    elim (table_or_fault IsLiteral literal_field IsLiteralFault literal_or_fault p.header.literals p.rest following) [
      | inr bad ↦ inr (_, in_literals p bad.0 bad.1)
      | inl good ↦
          instrs_here bytes fits short
          (record {
            header = p.header;
            names = p.names;
            literals = good.0;
            rest = good.1;
            allowed = p.allowed;
            name_table = p.name_table;
            literal_table = good.2;
            spells = p.spells ∙ ap (λ (t : Text). header_field p.header ++ (p.names ++ t)) good.3;
          })
    ]

names_here : (bytes : Text) → AreBytes bytes → length bytes ≤ MAX_BYTES → PastHeader bytes → IsAnswered bytes
names_here bytes fits short p =
    let following = bytes_right (header_field p.header) p.rest (subst AreBytes p.spells fits) in
    elim (table_or_fault IsCodeName name_field IsNameFault name_or_fault p.header.names p.rest following) [
      | inr bad ↦ inr (_, in_names p bad.0 bad.1)
      | inl good ↦
          literals_here bytes fits short
          (record {
            header = p.header;
            names = good.0;
            rest = good.1;
            allowed = p.allowed;
            name_table = good.2;
            spells = p.spells ∙ ap (λ (t : Text). header_field p.header ++ t) good.3;
          })
          (bytes_right good.0 good.1 (subst AreBytes good.3 following))
    ]

header_here : (bytes : Text) → AreBytes bytes → length bytes ≤ MAX_BYTES → PastCounts bytes → IsAnswered bytes
header_here bytes fits short p = by_fault (header_fault p.header) refl
  where
    by_fault : (o : Option CodeError) → header_fault p.header ≡ o → IsAnswered bytes
    by_fault (Some e) h = inr (e, bad_counts p e h)
    by_fault None h =
        names_here bytes fits short
        (record { header = p.header; rest = p.rest; allowed = allowed_header p.header p.numbers.version h; spells = p.spells })

fields_here : (bytes : Text) → AreBytes bytes → length bytes ≤ MAX_BYTES → IsAnswered bytes
fields_here bytes fits short = elim (magic_or_not bytes) [
  | inr other ↦ inr (_, bad_magic other)
  | inl p ↦ elim (counts_here p.version p.rest p.known p.spells (bytes_right (magic p.version) p.rest (subst AreBytes p.spells fits))) [
    | inr few ↦ inr (_, no_counts p few)
    | inl counts ↦ header_here bytes fits short counts
  ]
]

are_bytes : (bytes : Text) → All (λ b. b < 256) bytes → AreBytes bytes
are_bytes bytes h i = grind (arith, common_steps)

pub code_or_fault : (bytes : Text) → All (λ b. b < 256) bytes
    → ((c : Code) × IsCodeFile bytes c) ⊎ ((e : CodeError) × IsFirstFault bytes e)
code_or_fault bytes h = elim (cases_lt MAX_BYTES (length bytes)) [
  | inl long ↦ inr (_, too_long long)
  | inr short ↦ elim (fields_here bytes (are_bytes bytes h) short) [
    | inl code ↦ inl code
    | inr bad ↦ inr (bad.0, in_field bad.0 short bad.1)
  ]
]
