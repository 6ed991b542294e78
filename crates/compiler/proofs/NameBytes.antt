-- A name of the grammar is a name that a code file may have.
use Rattle.std.proofs.Common.{◌≡◌, ℕ, ◌<◌, [], ◌∷◌, length, true, ◌==◌, ◌&&◌, arith, length-append}
use Rattle.std.specs.Prelude.{All}
use Rattle.std.proofs.lemmas.Bool.{and_parts, eqb-true}
use Rattle.std.proofs.lemmas.Bool.Decides.{nat_tests}
use Rattle.std.proofs.lemmas.List.Elements.{All-nil, All-cons, All-append}
use Rattle.text_model.specs.Texts.{Text, is_hexadecimal}
use Rattle.code_model.specs.Code.{Name}
use Rattle.uri_grammar.specs.Names.{IsVarchar, character_varchar, triplet_varchar, IsVarname, first_varchar, next_varchar, dotted_varchar, IsName}
use Rattle.uri_grammar.specs.Names.{is_name_character}
use Rattle.code_file.specs.Grammar.{IsNameByte, IsCodeName}

character_visible : (c : ℕ) → is_name_character c ≡ true → IsNameByte c
character_visible c h = (grind (arith, h), grind (arith, nat_tests))

hexadecimal_visible : (c : ℕ) → is_hexadecimal c ≡ true → IsNameByte c
hexadecimal_visible c h = (grind (arith, nat_tests), grind (arith, nat_tests))

percent_visible : (c : ℕ) → (c == 37) ≡ true → IsNameByte c
percent_visible c h = let same : c ≡ 37 = eqb-true c 37 h in (omega arith, omega arith)

dot_visible : IsNameByte 46
dot_visible = (omega arith, omega arith)

varchar_visible : (v : Text) → IsVarchar v → All IsNameByte v
varchar_visible v (character_varchar c h) = All-cons IsNameByte c [] (character_visible c h) (All-nil IsNameByte)
varchar_visible v (triplet_varchar c high low h) =
    let first : ((c == 37) ≡ true) × ((is_hexadecimal high && is_hexadecimal low) ≡ true) = and_parts _ _ h in
    let digits : (is_hexadecimal high ≡ true) × (is_hexadecimal low ≡ true) = and_parts _ _ first.1 in
    All-cons IsNameByte c (high ∷ low ∷ []) (percent_visible c first.0)
    (All-cons IsNameByte high (low ∷ []) (hexadecimal_visible high digits.0)
    (All-cons IsNameByte low [] (hexadecimal_visible low digits.1) (All-nil IsNameByte)))

varname_visible : (name : Text) → IsVarname name → All IsNameByte name
varname_visible name (first_varchar v h) = varchar_visible v h
varname_visible name (next_varchar n v h k) = All-append IsNameByte n v (varname_visible n h) (varchar_visible v k)
varname_visible name (dotted_varchar n v h k) =
    All-append IsNameByte n (46 ∷ v) (varname_visible n h) (All-cons IsNameByte 46 v dot_visible (varchar_visible v k))

varchar_some : (v : Text) → IsVarchar v → 0 < length v
varchar_some v (character_varchar c h) = omega arith
varchar_some v (triplet_varchar c high low h) = omega arith

varname_some : (name : Text) → IsVarname name → 0 < length name
varname_some name (first_varchar v h) = varchar_some v h
varname_some name (next_varchar n v h k) = omega (arith, varchar_some v k, length-append n v)
varname_some name (dotted_varchar n v h k) = omega (arith, varchar_some v k, length-append n (46 ∷ v))

pub file_name : (name : Name) → IsName name.text → IsCodeName name
file_name name h = record { some = varname_some name.text h.0; short = h.1; visible = varname_visible name.text h.0 }
