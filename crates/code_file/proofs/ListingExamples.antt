-- The listings of small codes, and how single instructions are listed.
use Rattle.std.proofs.Common.{◌≡◌, ◌++◌, List, [], ◌∷◌, refl, codes, map}
use Rattle.std.specs.Fmt.{digits}
use Rattle.code_model.specs.Code.{row, reading}
use Rattle.code_model.specs.declared.code.Instr.{Instr}
use Rattle.code_file.specs.Grammar.{code_with}
use Rattle.code_file.specs.Listing.{instr_text, listing}
use Rattle.code_file.proofs.Examples.{list_code, issn_code}

-- ---- whole codes

of_list_code : listing list_code
    ≡ codes "OLK1 names 1 literals 1 instructions 6\nname 0 list list\nliteral 0 link \",\"\n"
    ++ codes "0 LIST r0 n0\n1 EACH r1 r0 5\n2 SEP l0\n3 PUT r1 u\n4 NEXT\n5 HALT\n"
unfolding listing reading digits
of_list_code = refl

of_issn_code : listing issn_code
    ≡ codes "OLK1 names 1 literals 4 instructions 10\nname 0 text rft.issn\n"
    ++ codes "literal 0 link \"http://e.org/\"\nliteral 1 compare \"\"\nliteral 2 link \",\"\nliteral 3 compare \"1\"\n"
    ++ codes "0 EMIT l0\n1 CONST r4 l1\n2 TEXT r0 n0\n3 UNDEF r0 8\n4 EMPTY r4 6\n5 EMIT l2\n6 CONST r4 l3\n7 PUT r0 u\n8 HALT\n9 FAIL\n"
unfolding listing reading digits
of_issn_code = refl

of_version_2 : listing (code_with 2 [] [] (row 19 1 0 0 0 ∷ [])) ≡ codes "OLK2 names 0 literals 0 instructions 1\n0 COUNT r1 r0\n"
unfolding listing reading digits
of_version_2 = refl

of_odd_parts : listing (code_with 1 [] [] (row 19 1 2 3 4 ∷ [])) ≡ codes "OLK1 names 0 literals 0 instructions 1\n0 ? 19 1 2 3 4\n"
unfolding listing reading digits
of_odd_parts = refl

-- ---- instructions

abbrev fields : List Instr
fields =
    row 2 0 0 0 0 ∷ row 3 0 0 0 65535 ∷ row 7 1 2 0 3 ∷ row 10 1 0 0 3 ∷ row 11 1 2 0 3 ∷ row 12 1 2 0 3 ∷ row 14 63 0 1 0
    ∷ row 15 1 1 0 0 ∷ row 15 1 9999 1 0
    -- a count or a mode out of its range, an unused field that is not 0, and a number that is no operation
    ∷ row 15 1 10000 1 0 ∷ row 15 1 0 0 0 ∷ row 14 1 0 2 0 ∷ row 1 0 0 0 1 ∷ row 14 0 7 0 0 ∷ row 0 0 0 0 0 ∷ row 19 1 0 0 0
    ∷ []

of_instructions : map (instr_text 1) fields
    ≡ codes "FAIL" ∷ codes "JUMP 65535" ∷ codes "NUMBER r1 r2 3" ∷ codes "NOLIST r1 3" ∷ codes "DIFFER r1 r2 3" ∷ codes "LESS r1 r2 3"
    ∷ codes "PUT r63 ur" ∷ codes "CUT r1 1 u" ∷ codes "CUT r1 9999 ur"
    ∷ codes "? 15 1 10000 1 0" ∷ codes "? 15 1 0 0 0" ∷ codes "? 14 1 0 2 0" ∷ codes "? 1 0 0 0 1" ∷ codes "? 14 0 7 0 0"
    ∷ codes "? 0 0 0 0 0" ∷ codes "? 19 1 0 0 0"
    ∷ []
unfolding reading digits
of_instructions = refl
