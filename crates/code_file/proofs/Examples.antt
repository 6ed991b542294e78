-- The bytes of parts, the bytes that names may have, and the limits, computed from the definitions.
use Rattle.std.proofs.Common.{◌≡◌, refl, true, false, [], ◌∷◌, codes, Some, None, arith}
use Rattle.std.specs.Prelude.{drop, length}
use Rattle.text_model.specs.Texts.{Text}
use Rattle.code_model.specs.Code.{Code, row, upgraded}
use Rattle.code_file.specs.declared.error.CodeErrorKind.TheVariants.{TooMany, NoCode}
use Rattle.code_file.specs.Grammar.{name_field, literal_field, code_with, spelled, IsNameByte}
use Rattle.code_file.specs.Fault.{fault, header_fault, IsNameLength}

-- ---- bytes

halt_in_version_1 : spelled (code_with 1 [] [] (row 1 0 0 0 0 ∷ []))
    ≡ 0x4f ∷ 0x4c ∷ 0x4b ∷ 0x31 ∷ 0 ∷ 0 ∷ 0 ∷ 0 ∷ 0 ∷ 1 ∷ 1 ∷ 0 ∷ 0 ∷ 0 ∷ 0 ∷ 0 ∷ 0 ∷ 0 ∷ []
halt_in_version_1 = refl

fields_in_version_2 : spelled (code_with 2 [] [] (row 19 1 2 770 4 ∷ []))
    ≡ 0x4f ∷ 0x4c ∷ 0x4b ∷ 0x32 ∷ 0 ∷ 0 ∷ 0 ∷ 0 ∷ 0 ∷ 1 ∷ 19 ∷ 1 ∷ 0 ∷ 2 ∷ 3 ∷ 2 ∷ 0 ∷ 4 ∷ []
fields_in_version_2 = refl

list_name : name_field (record { list = true; text = codes "ab" }) ≡ 1 ∷ 2 ∷ 0x61 ∷ 0x62 ∷ []
list_name = refl

link_text : literal_field (record { compared = false; bytes = codes "," }) ≡ 0 ∷ 0 ∷ 1 ∷ 0x2c ∷ []
link_text = refl

-- the members of `list`, separated by commas
abbrev pub list_code : Code
list_code =
    code_with 1 (record { list = true; text = codes "list" } ∷ []) (record { compared = false; bytes = codes "," } ∷ [])
    (row 5 0 0 0 0 ∷ row 16 1 0 0 5 ∷ row 17 0 0 0 0 ∷ row 14 1 0 0 0 ∷ row 18 0 0 0 0 ∷ row 1 0 0 0 0 ∷ [])

-- the code of a rule with the template `http://e.org/{rft.issn}`
abbrev pub issn_code : Code
issn_code =
    code_with 1 (record { list = false; text = codes "rft.issn" } ∷ [])
    (record { compared = false; bytes = codes "http://e.org/" }
    ∷ record { compared = true; bytes = [] }
    ∷ record { compared = false; bytes = codes "," }
    ∷ record { compared = true; bytes = codes "1" }
    ∷ [])
    (row 13 0 0 0 0 ∷ row 6 4 1 0 0 ∷ row 4 0 0 0 0 ∷ row 8 0 0 0 8 ∷ row 9 4 0 0 6 ∷ row 13 0 2 0 0 ∷ row 6 4 3 0 0
    ∷ row 14 0 0 0 0 ∷ row 1 0 0 0 0 ∷ row 2 0 0 0 0 ∷ [])

abbrev list_file : Text
list_file =
    0x4f ∷ 0x4c ∷ 0x4b ∷ 0x31 ∷ 0x00 ∷ 0x01 ∷ 0x00 ∷ 0x01 ∷ 0x00 ∷ 0x06 ∷ 0x01 ∷ 0x04
    ∷ 0x6c ∷ 0x69 ∷ 0x73 ∷ 0x74 ∷ 0x00 ∷ 0x00 ∷ 0x01 ∷ 0x2c
    ∷ 0x05 ∷ 0x00 ∷ 0x00 ∷ 0x00 ∷ 0x00 ∷ 0x00 ∷ 0x00 ∷ 0x00
    ∷ 0x10 ∷ 0x01 ∷ 0x00 ∷ 0x00 ∷ 0x00 ∷ 0x00 ∷ 0x00 ∷ 0x05
    ∷ 0x11 ∷ 0x00 ∷ 0x00 ∷ 0x00 ∷ 0x00 ∷ 0x00 ∷ 0x00 ∷ 0x00
    ∷ 0x0e ∷ 0x01 ∷ 0x00 ∷ 0x00 ∷ 0x00 ∷ 0x00 ∷ 0x00 ∷ 0x00
    ∷ 0x12 ∷ 0x00 ∷ 0x00 ∷ 0x00 ∷ 0x00 ∷ 0x00 ∷ 0x00 ∷ 0x00
    ∷ 0x01 ∷ 0x00 ∷ 0x00 ∷ 0x00 ∷ 0x00 ∷ 0x00 ∷ 0x00 ∷ 0x00
    ∷ []

list_code_spelled : spelled list_code ≡ list_file
list_code_spelled = refl

upgraded_list_code_spelled : spelled (upgraded list_code) ≡ 0x4f ∷ 0x4c ∷ 0x4b ∷ 0x32 ∷ drop 4 list_file
upgraded_list_code_spelled = refl

issn_code_is_long : length (spelled issn_code) ≡ 127
issn_code_is_long = refl

-- ---- names

exclamation_mark_in_names : IsNameByte 0x21
exclamation_mark_in_names = (omega arith, omega arith)

tilde_in_names : IsNameByte 0x7e
tilde_in_names = (omega arith, omega arith)

space_in_no_name : IsNameByte 0x20 → ⊥
space_in_no_name p = omega (arith, p.0)

delete_in_no_name : IsNameByte 0x7f → ⊥
delete_in_no_name p = omega (arith, p.1)

-- ---- limits

at_all_limits : header_fault (record { version = 2; names = 256; literals = 1024; instrs = 4096 }) ≡ None
at_all_limits = refl

too_many_names : header_fault (record { version = 1; names = 257; literals = 1025; instrs = 0 }) ≡ Some (fault TooMany 4)
too_many_names = refl

too_many_literals : header_fault (record { version = 1; names = 256; literals = 1025; instrs = 0 }) ≡ Some (fault TooMany 6)
too_many_literals = refl

too_many_instrs : header_fault (record { version = 1; names = 0; literals = 0; instrs = 4097 }) ≡ Some (fault TooMany 8)
too_many_instrs = refl

no_code : header_fault (record { version = 1; names = 0; literals = 0; instrs = 0 }) ≡ Some (fault NoCode 8)
no_code = refl

longest_name : IsNameLength 255
longest_name = (omega arith, omega arith)

too_long_name : IsNameLength 256 → ⊥
too_long_name p = omega (arith, p.1)
