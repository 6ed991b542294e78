-- The errors of small files, each with its place.
use Rattle.std.proofs.Common.{◌≡◌, ℕ, true, false, [], ◌∷◌, ◌++◌, ◌≤◌, length, refl, inl, inr, subst, codes, arith, length-append}
use Rattle.std.specs.Prelude.{All}
use Rattle.std.proofs.lemmas.List.Elements.{All-nil, All-cons}
use Rattle.text_model.specs.Texts.{Text}
use Rattle.text_model.specs.UriText.{IsUriText}
use Rattle.code_model.specs.Code.{Name, Code}
use Rattle.code_file.specs.declared.error.CodeError.{CodeError}
use Rattle.code_file.specs.declared.error.CodeErrorKind.TheVariants.{TooLong, BadMagic, Truncated, TooMany, NoCode, BadName, BadKind, BadLiteral, Trailing}
use Rattle.code_file.specs.declared.header.Header.{Header}
use Rattle.code_file.specs.Grammar.{magic, IsNameByte, IsCodeName, IsLiteral, IsCodeFile}
use Rattle.code_file.specs.Fault.{fault, after, no_kind, bad_kind, IsNameFault, IsLiteralFault, in_kind, no_length, bad_length, no_text, bad_text, IsTableFault}
use Rattle.code_file.specs.Fault.{IsFirstWrong, IsFirstFault, in_field, too_long, IsFieldFault, bad_magic, no_counts, bad_counts, in_names, in_literals}
use Rattle.code_file.specs.Fault.{in_instrs, trailing, PastMagic, PastCounts, PastHeader, PastNames, PastLiterals}

-- ---- the length of the file

file_of_65537_bytes : (bytes : Text) → length bytes ≡ 65537 → IsFirstFault bytes (fault TooLong 65536)
file_of_65537_bytes bytes len = too_long (omega (arith, len))

file_of_65536_bytes : (bytes : Text) (e : CodeError) → length bytes ≡ 65536 → IsFieldFault bytes e → IsFirstFault bytes e
file_of_65536_bytes bytes e len f = in_field e (omega (arith, len)) f

-- ---- magic and counts

abbrev header : ℕ → ℕ → ℕ → ℕ → Header
header version names literals instrs = record { version = version; names = names; literals = literals; instrs = instrs }

no_bytes : IsFirstFault [] (fault BadMagic 0)
no_bytes = in_field _ (omega arith) (bad_magic none)
  where
    none : PastMagic [] → ⊥
    none p = let s : [] ≡ magic p.version ++ p.rest = p.spells in cc

magic_alone : IsFirstFault (codes "OLK1") (fault Truncated 4)
magic_alone = in_field _ (omega arith) (no_counts (record { version = 1; rest = []; known = inl refl; spells = refl }) (omega arith))

five_bytes_of_counts : IsFirstFault (codes "OLK2" ++ 0 ∷ 0 ∷ 0 ∷ 0 ∷ 0 ∷ []) (fault Truncated 9)
five_bytes_of_counts =
    in_field _ (omega arith) (no_counts (record { version = 2; rest = 0 ∷ 0 ∷ 0 ∷ 0 ∷ 0 ∷ []; known = inr refl; spells = refl }) (omega arith))

too_many_names : IsFirstFault (codes "OLK1" ++ 1 ∷ 1 ∷ 0 ∷ 0 ∷ 0 ∷ 1 ∷ []) (fault TooMany 4)
too_many_names = in_field _ (omega arith) (bad_counts past _ refl)
  where
    past : PastCounts (codes "OLK1" ++ 1 ∷ 1 ∷ 0 ∷ 0 ∷ 0 ∷ 1 ∷ [])
    past = record {
      header = header 1 257 0 1;
      rest = [];
      numbers = record { version = inl refl; names = omega arith; literals = omega arith; instrs = omega arith };
      spells = refl;
    }

no_instructions : IsFirstFault (codes "OLK1" ++ 0 ∷ 0 ∷ 0 ∷ 0 ∷ 0 ∷ 0 ∷ []) (fault NoCode 8)
no_instructions = in_field _ (omega arith) (bad_counts past _ refl)
  where
    past : PastCounts (codes "OLK1" ++ 0 ∷ 0 ∷ 0 ∷ 0 ∷ 0 ∷ 0 ∷ [])
    past = record {
      header = header 1 0 0 0;
      rest = [];
      numbers = record { version = inl refl; names = omega arith; literals = omega arith; instrs = omega arith };
      spells = refl;
    }

-- ---- the first name

-- the bytes of a file with one name, no literal and one instruction, from the name on
abbrev named : Text → Text
named rest = codes "OLK1" ++ 0 ∷ 1 ∷ 0 ∷ 0 ∷ 0 ∷ 1 ∷ rest

-- the error of the first entry is that of the table
of_first : {X : Type 0} (IsGood : X → Type 0) (field : X → Text) (IsFault : Text → CodeError → Type 0) (bytes : Text) (e : CodeError)
    → e ≡ after 0 e → IsFault bytes e → IsTableFault IsGood field IsFault 1 bytes e
of_first IsGood field IsFault bytes e here f =
    record {
      before = 0;
      fewer = omega arith;
      front = [];
      rest = bytes;
      spells = refl;
      table = ([], record { good = All-nil IsGood; counted = refl; spells = refl });
      here = e;
      faulty = f;
      place = here;
    }

of_name : (rest : Text) (e : CodeError) → length (named rest) ≤ 65536 → e ≡ after 0 e → IsNameFault rest e → IsFirstFault (named rest) (after 10 e)
of_name rest e short here f = in_field _ (omega (arith, short)) (in_names past e (of_first _ _ _ rest e here f))
  where
    past : PastHeader (named rest)
    past = record {
      header = header 1 1 0 1;
      rest = rest;
      allowed = record { version = inl refl; names = omega arith; literals = omega arith; some = omega arith; instrs = omega arith };
      spells = refl;
    }

kind_2_in_names : IsFirstFault (named (2 ∷ [])) (fault BadKind 10)
kind_2_in_names = of_name _ (fault BadKind 0) (omega arith) refl (in_kind _ (bad_kind 2 [] refl (omega arith)))

no_kind_in_names : IsFirstFault (named []) (fault Truncated 10)
no_kind_in_names = of_name _ (fault Truncated 0) (omega arith) refl (in_kind _ (no_kind refl))

no_length_in_names : IsFirstFault (named (1 ∷ [])) (fault Truncated 11)
no_length_in_names = of_name _ (fault Truncated 1) (omega arith) refl (no_length true refl)

length_0_in_names : IsFirstFault (named (0 ∷ 0 ∷ [])) (fault BadName 11)
length_0_in_names = of_name _ (fault BadName 1) (omega arith) refl (bad_length false 0 [] refl (λ n. omega (arith, n.0)))

short_text_in_names : IsFirstFault (named (1 ∷ 3 ∷ codes "ab")) (fault Truncated 14)
short_text_in_names = of_name _ (fault Truncated 4) (omega arith) refl (no_text true 3 (codes "ab") refl (omega arith, omega arith) (omega arith))

wrong_byte_in_names : IsFirstFault (named (0 ∷ 3 ∷ codes "ab c")) (fault BadName 14)
wrong_byte_in_names =
    of_name _ (fault BadName 4) (omega arith) refl
    (bad_text (record { list = false; text = codes "ab " }) (codes "c") 2 refl (omega arith, omega arith) wrong)
  where
    visible : All IsNameByte (codes "ab")
    visible = All-cons IsNameByte 0x61 (codes "b") (omega arith, omega arith) (All-cons IsNameByte 0x62 [] (omega arith, omega arith) (All-nil IsNameByte))

    wrong : IsFirstWrong (codes "ab ") 2
    wrong = record { within = omega arith; before = visible; wrong = λ b. omega (arith, b.0) }

-- ---- literals, after one name

-- the bytes of a file with one name, one literal and one instruction, from the literal on
abbrev written : Text → Text
written rest = codes "OLK1" ++ 0 ∷ 1 ∷ 0 ∷ 1 ∷ 0 ∷ 1 ∷ 1 ∷ 1 ∷ 0x61 ∷ rest

of_literal : (rest : Text) (e : CodeError) → length (written rest) ≤ 65536 → e ≡ after 0 e → IsLiteralFault rest e → IsFirstFault (written rest) (after 13 e)
of_literal rest e short here f = in_field _ (omega (arith, short)) (in_literals past e (of_first _ _ _ rest e here f))
  where
    a : Name
    a = record { list = true; text = codes "a" }

    is_name : IsCodeName a
    is_name =
        record {
          some = omega arith;
          short = omega arith;
          visible = All-cons IsNameByte 0x61 [] (omega arith, omega arith) (All-nil IsNameByte);
        }

    past : PastNames (written rest)
    past = record {
      header = header 1 1 1 1;
      names = 1 ∷ 1 ∷ 0x61 ∷ [];
      rest = rest;
      allowed = record { version = inl refl; names = omega arith; literals = omega arith; some = omega arith; instrs = omega arith };
      name_table = (a ∷ [], record { good = All-cons IsCodeName a [] is_name (All-nil IsCodeName); counted = refl; spells = refl });
      spells = refl;
    }

kind_255_in_literals : IsFirstFault (written (255 ∷ [])) (fault BadKind 13)
kind_255_in_literals = of_literal _ (fault BadKind 0) (omega arith) refl (in_kind _ (bad_kind 255 [] refl (omega arith)))

one_byte_of_length_in_literals : IsFirstFault (written (1 ∷ 0 ∷ [])) (fault Truncated 15)
one_byte_of_length_in_literals = of_literal _ (fault Truncated 2) (omega arith) refl (no_length true (0 ∷ []) refl (omega arith))

short_text_in_literals : IsFirstFault (written (0 ∷ 0 ∷ 2 ∷ codes "a")) (fault Truncated 17)
short_text_in_literals = of_literal _ (fault Truncated 4) (omega arith) refl (no_text false 2 (codes "a") refl (omega arith) (omega arith))

-- at the first byte of the text, whichever byte is wrong
wrong_text_in_literals : (IsUriText (codes "a%") → ⊥) → IsFirstFault (written (0 ∷ 0 ∷ 2 ∷ codes "a%")) (fault BadLiteral 16)
wrong_text_in_literals wrong =
    of_literal _ (fault BadLiteral 3) (omega arith) refl (bad_text (record { compared = false; bytes = codes "a%" }) [] refl (omega arith) wrong)

-- ---- instructions

-- HALT, without its last byte
short_instruction : IsFirstFault (codes "OLK1" ++ 0 ∷ 0 ∷ 0 ∷ 0 ∷ 0 ∷ 1 ∷ 1 ∷ 0 ∷ 0 ∷ 0 ∷ 0 ∷ 0 ∷ 0 ∷ []) (fault Truncated 17)
short_instruction = in_field _ (omega arith) (in_instrs past (omega arith))
  where
    past : PastLiterals (codes "OLK1" ++ 0 ∷ 0 ∷ 0 ∷ 0 ∷ 0 ∷ 1 ∷ 1 ∷ 0 ∷ 0 ∷ 0 ∷ 0 ∷ 0 ∷ 0 ∷ [])
    past = record {
      header = header 1 0 0 1;
      names = [];
      literals = [];
      rest = 1 ∷ 0 ∷ 0 ∷ 0 ∷ 0 ∷ 0 ∷ 0 ∷ [];
      allowed = record { version = inl refl; names = omega arith; literals = omega arith; some = omega arith; instrs = omega arith };
      name_table = ([], record { good = All-nil IsCodeName; counted = refl; spells = refl });
      literal_table = ([], record { good = All-nil IsLiteral; counted = refl; spells = refl });
      spells = refl;
    }

one_byte_more : (bytes : Text) (c : Code) → IsCodeFile bytes c → length bytes ≡ 68 → IsFirstFault (bytes ++ 0 ∷ []) (fault Trailing 68)
one_byte_more bytes c file len =
    in_field _ (omega (arith, len, length-append bytes (0 ∷ [])))
    (subst (λ n. IsFieldFault (bytes ++ 0 ∷ []) (fault Trailing n)) len (trailing bytes [] 0 c file refl))
