-- Each entry and each table is valid or has an error.
use Rattle.std.proofs.Common.{◌≡◌, ◌<◌, ◌+◌, ◌*◌, ◌⊎◌, ℕ, zero, suc, Bool, true, false, [], ◌∷◌, ◌++◌, length, take, drop, refl, sym, ◌∙◌, ap, subst, inl, inr}
use Rattle.std.proofs.lemmas.Grind.{common_steps}
use Rattle.std.proofs.Common.{append_assoc, arith}
use Rattle.std.specs.Prelude.{◌==◌}
use Rattle.std.specs.Str.{is_utf8}
use Rattle.std.proofs.lemmas.Bool.{cases_lt, cases_Bool}
use Rattle.std.proofs.lemmas.List.{length-take-le}
use Rattle.std.proofs.lemmas.Str.{IsUtf8-from_is_utf8, is_utf8-from_IsUtf8}
use Rattle.text_model.specs.Texts.{Text}
use Rattle.code_model.specs.Code.{Name, Literal}
use Rattle.code_file.specs.declared.error.CodeError.{CodeError}
use Rattle.code_file.specs.Grammar.{number, kind_byte, name_field, literal_field, IsCodeName, IsTextOf, IsLiteral}
use Rattle.code_file.specs.Fault.{after, IsNameLength, IsNameFault, IsLiteralFault, in_kind, no_kind, bad_kind, no_length, bad_length, no_text, bad_text}
use Rattle.code_file.specs.Fault.{IsTable, IsTableFault}
use Rattle.code_file.specs.Private.FromLeft.{is_uri_text}
use Rattle.code_file.specs.Private.Tables.{BeginsWith}
use Rattle.code_file.proofs.UriTextLemmas.{IsUriText-from_left, is_uri_text-from_set}
use Rattle.code_file.proofs.FieldLemmas.{kind_byte-kind, name_spelled, literal_spelled}
use Rattle.code_file.proofs.TableLemmas.{table_none, table_cons}
use Rattle.code_file.proofs.FileLemmas.{AreBytes, bytes_right, number_of_bytes, number_small}
use Rattle.code_file.proofs.PartsLemmas.{first_wrong_of}

-- ---- an entry

-- bytes begin with a valid entry, or have the error of one
abbrev IsEntryOrFault : {X : Type 0} → (X → Type 0) → (X → Text) → (Text → CodeError → Type 0) → Text → Type 0
IsEntryOrFault {X} IsGood field IsFault bytes = BeginsWith IsGood field bytes ⊎ ((e : CodeError) × IsFault bytes e)

kind_or_fault : (kind : ℕ) → ((b : Bool) × (kind ≡ kind_byte b)) ⊎ (1 < kind)
kind_or_fault kind = elim (cases_lt 1 kind) [
  | inl wrong ↦ inr wrong
  | inr good ↦ inl (kind == 1, sym (kind_byte-kind kind good))
]

name_length_or_not : (len : ℕ) → IsNameLength len ⊎ (IsNameLength len → ⊥)
name_length_or_not len = grind (arith, common_steps)

text_of_name : (list : Bool) (len : ℕ) (rest : Text) → IsNameLength len
    → IsEntryOrFault IsCodeName name_field IsNameFault (kind_byte list ∷ len ∷ rest)
text_of_name list len rest good = elim (cases_lt (length rest) len) [
  | inl short ↦ inr (_, no_text list len rest refl good short)
  | inr enough ↦
      let n : Name = record { list = list; text = take len rest } in
      let same : length n.text ≡ len = length-take-le len rest enough in
      let spells = name_spelled (kind_byte list ∷ len ∷ rest) rest n.text (drop len rest) list len refl refl refl same in
      elim (first_wrong_of n.text) [
        | inl all ↦ inl (n, drop len rest, record { some = omega (arith, good.0, same); short = omega (arith, good.1, same); visible = all }, spells)
        | inr found ↦ inr (_, bad_text n (drop len rest) found.0 spells (omega (arith, good.0, same), omega (arith, good.1, same)) found.1)
      ]
]

pub name_or_fault : (bytes : Text) → AreBytes bytes → IsEntryOrFault IsCodeName name_field IsNameFault bytes
name_or_fault [] fits = inr (_, in_kind _ (no_kind refl))
name_or_fault (kind ∷ rest) fits = elim (kind_or_fault kind) [
  | inr wrong ↦ inr (_, in_kind _ (bad_kind kind rest refl wrong))
  | inl good ↦
      subst (λ (k : ℕ). IsEntryOrFault IsCodeName name_field IsNameFault (k ∷ rest)) (sym good.1) (after_kind good.0 rest)
]
  where
    after_kind : (list : Bool) (rest : Text) → IsEntryOrFault IsCodeName name_field IsNameFault (kind_byte list ∷ rest)
    after_kind list [] = inr (_, no_length list refl)
    after_kind list (len ∷ rest) = elim (name_length_or_not len) [
      | inr bad ↦ inr (_, bad_length list len rest refl bad)
      | inl good ↦ text_of_name list len rest good
    ]

text_or_not : (compared : Bool) (text : Text) → IsTextOf compared text ⊎ (IsTextOf compared text → ⊥)
text_or_not true text = elim (cases_Bool (is_utf8 text)) [
  | inl passed ↦ inl (IsUtf8-from_is_utf8 text passed)
  | inr failed ↦ inr (λ t. let passed = is_utf8-from_IsUtf8 text t in cc (passed, failed))
]
text_or_not false text = elim (cases_Bool (is_uri_text text)) [
  | inl passed ↦ inl (IsUriText-from_left text passed)
  | inr failed ↦ inr (λ t. let passed = is_uri_text-from_set t in cc (passed, failed))
]

text_of_literal : (compared : Bool) (len : ℕ) (rest : Text) → len < 65536
    → IsEntryOrFault IsLiteral literal_field IsLiteralFault (kind_byte compared ∷ (number len ++ rest))
text_of_literal compared len rest small = elim (cases_lt (length rest) len) [
  | inl short ↦ inr (_, no_text compared len rest refl small short)
  | inr enough ↦
      let l : Literal = record { compared = compared; bytes = take len rest } in
      let same : length l.bytes ≡ len = length-take-le len rest enough in
      let spells =
      literal_spelled (kind_byte compared ∷ (number len ++ rest)) (number len ++ rest) rest l.bytes (drop len rest) compared len refl refl refl refl same in
      elim (text_or_not compared l.bytes) [
        | inl text ↦ inl (l, drop len rest, record { short = omega (arith, small, same); text = text }, spells)
        | inr bad ↦ inr (_, bad_text l (drop len rest) spells (omega (arith, small, same)) bad)
      ]
]

pub literal_or_fault : (bytes : Text) → AreBytes bytes → IsEntryOrFault IsLiteral literal_field IsLiteralFault bytes
literal_or_fault [] fits = inr (_, in_kind _ (no_kind refl))
literal_or_fault (kind ∷ rest) fits = elim (kind_or_fault kind) [
  | inr wrong ↦ inr (_, in_kind _ (bad_kind kind rest refl wrong))
  | inl good ↦
      subst (λ (k : ℕ). IsEntryOrFault IsLiteral literal_field IsLiteralFault (k ∷ rest)) (sym good.1)
      (after_kind good.0 rest (λ i. fits (suc i)))
]
  where
    after_kind : (compared : Bool) (rest : Text) → AreBytes rest
        → IsEntryOrFault IsLiteral literal_field IsLiteralFault (kind_byte compared ∷ rest)
    after_kind compared [] fits = inr (_, no_length compared [] refl (omega arith))
    after_kind compared (high ∷ []) fits = inr (_, no_length compared (high ∷ []) refl (omega arith))
    after_kind compared (high ∷ low ∷ rest) fits =
        subst (λ (t : Text). IsEntryOrFault IsLiteral literal_field IsLiteralFault (kind_byte compared ∷ (t ++ rest)))
        (number_of_bytes high low (fits 0) (fits 1))
        (text_of_literal compared (256 * high + low) rest (number_small high low (fits 0) (fits 1)))

-- ---- a table

-- bytes begin with that many valid entries
abbrev BeginsWithTable : {X : Type 0} → (X → Type 0) → (X → Text) → ℕ → Text → Type 0
BeginsWithTable IsGood field count bytes =
    (front : Text) × (rest : Text) × IsTable IsGood field count front × (bytes ≡ front ++ rest)

abbrev IsTableOrFault : {X : Type 0} → (X → Type 0) → (X → Text) → (Text → CodeError → Type 0) → ℕ → Text → Type 0
IsTableOrFault IsGood field IsFault count bytes =
    BeginsWithTable IsGood field count bytes ⊎ ((e : CodeError) × IsTableFault IsGood field IsFault count bytes e)

-- a valid entry comes before
entry_more : {X : Type 0} (IsGood : X → Type 0) (field : X → Text) (IsFault : Text → CodeError → Type 0) (count : ℕ)
    (bytes rest : Text) (x : X) → IsGood x → bytes ≡ field x ++ rest → IsTableOrFault IsGood field IsFault count rest
    → IsTableOrFault IsGood field IsFault (suc count) bytes
entry_more IsGood field IsFault count bytes rest x good h (inl more) =
    inl (
      field x ++ more.0,
      more.1,
      (x ∷ more.2.0, table_cons IsGood field count more.0 (field x ++ more.0) more.2.0 more.2.1 x good refl),
      h ∙ ap (λ (t : Text). field x ++ t) more.3 ∙ sym (append_assoc (field x) more.0 more.1),
    )
entry_more IsGood field IsFault count bytes rest x good h (inr bad) =
    let t = bad.1 in inr (
      after (length (field x ++ t.front)) t.here,
      record {
        before = suc t.before;
        fewer = omega (arith, t.fewer);
        front = field x ++ t.front;
        rest = t.rest;
        spells = h ∙ ap (λ (b : Text). field x ++ b) t.spells ∙ sym (append_assoc (field x) t.front t.rest);
        table = (x ∷ t.table.0, table_cons IsGood field t.before t.front (field x ++ t.front) t.table.0 t.table.1 x good refl);
        here = t.here;
        faulty = t.faulty;
        place = refl;
      },
    )

pub table_or_fault : {X : Type 0} (IsGood : X → Type 0) (field : X → Text) (IsFault : Text → CodeError → Type 0)
    → ((bytes : Text) → AreBytes bytes → IsEntryOrFault IsGood field IsFault bytes)
    → (count : ℕ) (bytes : Text) → AreBytes bytes → IsTableOrFault IsGood field IsFault count bytes
table_or_fault IsGood field IsFault entry zero bytes fits = inl ([], bytes, table_none IsGood field, refl)
table_or_fault IsGood field IsFault entry (suc n) bytes fits = elim (entry bytes fits) [
  | inl good ↦
      entry_more IsGood field IsFault n bytes good.1 good.0 good.2 good.3
      (table_or_fault IsGood field IsFault entry n good.1 (bytes_right (field good.0) good.1 (subst AreBytes good.3 fits)))
  | inr bad ↦ inr (
    after 0 bad.0,
    record {
      before = 0;
      fewer = omega arith;
      front = [];
      rest = bytes;
      spells = refl;
      table = table_none IsGood field;
      here = bad.0;
      faulty = bad.1;
      place = refl;
    },
  )
]
