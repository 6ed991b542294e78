-- Which names, literals, counts and fields a code may have, at each limit and one past it.
use Rattle.std.proofs.Common.{◌≡◌, ◌≤◌, ℕ, Bool, true, false, [], ◌∷◌, length, refl, inl, inr, codes, arith}
use Rattle.std.specs.Prelude.{nat_le, ◌&&◌, All}
use Rattle.std.specs.List.{filter, range_with_len}
use Rattle.std.specs.Str.{IsUtf8}
use Rattle.std.proofs.lemmas.Bool.{le-leb, leb-true, and_from, and_parts}
use Rattle.text_model.specs.Texts.{Text}
use Rattle.text_model.specs.UriText.{IsUriText}
use Rattle.code_model.specs.Code.{Name, Literal, Code, row}
use Rattle.code_file.specs.declared.header.Header.{Header}
use Rattle.code_file.specs.Grammar.{header_field, header_of, code_with, spelled, IsVersion, IsNameByte, IsCodeName, IsTextOf, IsLiteral, IsInstr, IsHeader}
use Rattle.code_file.specs.Grammar.{IsCode}

-- ---- bytes of names

-- `!` to `~`
abbrev is_visible : ℕ → Bool
is_visible b = nat_le 0x21 b && nat_le b 0x7e

visible_bytes : filter is_visible (range_with_len 0 256)
    ≡ codes "!\"#$%&'()*+,-./0123456789:;<=>?@ABCDEFGHIJKLMNOPQRSTUVWXYZ[\\]^_`abcdefghijklmnopqrstuvwxyz{|}~"
visible_bytes = refl

names_have_visible_bytes : (b : ℕ) → IsNameByte b → is_visible b ≡ true
names_have_visible_bytes b p = and_from (nat_le 0x21 b) (nat_le b 0x7e) (le-leb 0x21 b p.0) (le-leb b 0x7e p.1)

visible_bytes_are_in_names : (b : ℕ) → is_visible b ≡ true → IsNameByte b
visible_bytes_are_in_names b h =
    let parts = and_parts (nat_le 0x21 b) (nat_le b 0x7e) h in (leb-true 0x21 b parts.0, leb-true b 0x7e parts.1)

-- ---- lengths

names_have_a_byte : (n : Name) → IsCodeName n → 1 ≤ length n.text
names_have_a_byte n name = omega (arith, name.some)

name_of_255_bytes : (n : Name) → length n.text ≡ 255 → All IsNameByte n.text → IsCodeName n
name_of_255_bytes n len visible = record { some = omega (arith, len); short = omega (arith, len); visible = visible }

no_name_of_256_bytes : (n : Name) → length n.text ≡ 256 → IsCodeName n → ⊥
no_name_of_256_bytes n len name = omega (arith, len, name.short)

no_literal_of_65536_bytes : (l : Literal) → length l.bytes ≡ 65536 → IsLiteral l → ⊥
no_literal_of_65536_bytes l len literal = omega (arith, len, literal.short)

-- ---- texts of literals

comparison_texts_are_utf8 : (text : Text) → IsTextOf true text → IsUtf8 text
comparison_texts_are_utf8 text is = is

link_texts_are_uri_text : (text : Text) → IsTextOf false text → IsUriText text
link_texts_are_uri_text text is = is

-- ---- versions and counts

abbrev header : ℕ → ℕ → ℕ → ℕ → Header
header version names literals instrs = record { version = version; names = names; literals = literals; instrs = instrs }

no_version_0 : IsVersion 0 → ⊥
no_version_0 v = elim v [
  | inl one ↦ omega (arith, one)
  | inr two ↦ omega (arith, two)
]

no_version_3 : IsVersion 3 → ⊥
no_version_3 v = elim v [
  | inl one ↦ omega (arith, one)
  | inr two ↦ omega (arith, two)
]

largest_counts : IsHeader (header 2 256 1024 4096)
largest_counts = record { version = inr refl; names = omega arith; literals = omega arith; some = omega arith; instrs = omega arith }

smallest_counts : IsHeader (header 1 0 0 1)
smallest_counts = record { version = inl refl; names = omega arith; literals = omega arith; some = omega arith; instrs = omega arith }

no_257_names : IsHeader (header 1 257 0 1) → ⊥
no_257_names h = omega (arith, h.names)

no_1025_literals : IsHeader (header 1 0 1025 1) → ⊥
no_1025_literals h = omega (arith, h.literals)

no_4097_instructions : IsHeader (header 1 0 0 4097) → ⊥
no_4097_instructions h = omega (arith, h.instrs)

no_code_without_instructions : IsHeader (header 1 0 0 0) → ⊥
no_code_without_instructions h = omega (arith, h.some)

-- names, literals and instructions are counted in this order, each in two bytes, the high one first
counts_in_order : header_field (header 2 258 772 1286) ≡ 0x4f ∷ 0x4c ∷ 0x4b ∷ 0x32 ∷ 1 ∷ 2 ∷ 3 ∷ 4 ∷ 5 ∷ 6 ∷ []
counts_in_order = refl

counted : header_of (code_with 2 [] (record { compared = true; bytes = [] } ∷ []) (row 1 0 0 0 0 ∷ row 2 0 0 0 0 ∷ [])) ≡ header 2 0 1 2
counted = refl

-- ---- fields of instructions

largest_fields : IsInstr (row 255 255 65535 65535 65535)
largest_fields = record { op = omega arith; a = omega arith; b = omega arith; c = omega arith; d = omega arith }

no_op_of_nine_bits : IsInstr (row 256 0 0 0 0) → ⊥
no_op_of_nine_bits i = omega (arith, i.op)

no_d_of_17_bits : IsInstr (row 1 0 0 0 65536) → ⊥
no_d_of_17_bits i = omega (arith, i.d)

-- ---- files

file_of_65536_bytes : (c : Code) → IsHeader (header_of c) → All IsCodeName c.names → All IsLiteral c.literals → length (spelled c) ≡ 65536 → IsCode c
file_of_65536_bytes c head names literals len = record { header = head; names = names; literals = literals; short = omega (arith, len) }

no_file_of_65537_bytes : (c : Code) → length (spelled c) ≡ 65537 → IsCode c → ⊥
no_file_of_65537_bytes c len code = omega (arith, len, code.short)
