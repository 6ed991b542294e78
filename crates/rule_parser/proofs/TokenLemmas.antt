-- Tokens: texts without a space.
use Rattle.std.proofs.Common.{arith, ◌≡◌, ◌≢◌, ℕ, ◌<◌, List, [], ◌∷◌, ◌++◌, Bool, true, false, ◌==◌, length, get_or, refl, ap}
use Rattle.std.specs.List.{AllByRecursion, list_all}
use Rattle.std.specs.Char.{is_ascii_digit}
use Rattle.std.proofs.lemmas.Bool.{and_parts, eqb-false}
use Rattle.std.proofs.lemmas.List.Elements.{recursion_from_All, All-from_get_or}
use Rattle.text_model.specs.Texts.{is_hexadecimal}
use Rattle.text_model.proofs.Lists.{same_parts}
use Rattle.uri_grammar.specs.Names.{IsVarchar, IsVarname, IsName, is_name_character, character_varchar, triplet_varchar, first_varchar, next_varchar}
use Rattle.uri_grammar.specs.Names.{dotted_varchar}
use Rattle.rule_parser.specs.declared.rule.Bound.{Bound}
use Rattle.rule_parser.specs.declared.rule.Bound.TheVariants as bound
use Rattle.rule_parser.specs.Rules.{IsBound}
use Rattle.rule_parser.specs.Statements.{bound_text}
use Rattle.rule_parser.specs.Private.Reading.{IsToken}

pub token_from_index : (t : List ℕ) → ((i : ℕ) → i < length t → get_or t i 0 ≢ 32) → IsToken t
token_from_index t h = recursion_from_All (λ b. b ≢ 32) t (All-from_get_or (λ b. b ≢ 32) t 0 h)

-- ---- the first bytes of two texts, and the first elements of two lists

pub same_tails : (x y : ℕ) (s t : List ℕ) → x ∷ s ≡ y ∷ t → s ≡ t
same_tails x y s t e = (same_parts x y s t e).1

pub other_heads : (x y : ℕ) (s t : List ℕ) → (x == y) ≡ false → x ∷ s ≡ y ∷ t → ⊥
other_heads x y s t n e = eqb-false x y n (same_parts x y s t e).0

-- ---- spaces

-- a text is split at its first space in only one way
pub token_split : (xs ys us vs : List ℕ) → IsToken xs → IsToken us → xs ++ 32 ∷ ys ≡ us ++ 32 ∷ vs → (xs ≡ us) × (ys ≡ vs)
token_split [] ys [] vs a b e = (refl, cc)
token_split [] ys (u ∷ us) vs a b e = absurd (b.0 (cc))
token_split (x ∷ xs) ys [] vs a b e = absurd (a.0 (cc))
token_split (x ∷ xs) ys (u ∷ us) vs a b e =
    let tails : xs ++ 32 ∷ ys ≡ us ++ 32 ∷ vs = cc in
    let r : (xs ≡ us) × (ys ≡ vs) = token_split xs ys us vs a.1 b.1 tails in
    (cc, r.1)

pub no_space : (t us vs : List ℕ) → IsToken t → t ≡ us ++ 32 ∷ vs → ⊥
no_space [] [] vs a e = cc
no_space [] (u ∷ us) vs a e = cc
no_space (x ∷ t) [] vs a e = a.0 (cc)
no_space (x ∷ t) (u ∷ us) vs a e = let tails : t ≡ us ++ 32 ∷ vs = cc in no_space t us vs a.1 tails

-- ---- the bytes of names

-- a byte of a class differs from a byte that is not in the class
class_lacks : (test : ℕ → Bool) (x : ℕ) → test x ≡ false → (b : ℕ) → test b ≡ true → b ≢ x
class_lacks test x outside b inside e = let same : test b ≡ test x = ap test e in cc

abbrev LacksByte : ℕ → List ℕ → Type 0
LacksByte x t = AllByRecursion (λ b. b ≢ x) t

lacks-append : (x : ℕ) (xs ys : List ℕ) → LacksByte x xs → LacksByte x ys → LacksByte x (xs ++ ys)
lacks-append x [] ys a b = b
lacks-append x (y ∷ xs) ys a b = (a.0, lacks-append x xs ys a.1 b)

-- a byte that cannot be in a name
abbrev IsNoNameByte : ℕ → Type 0
IsNoNameByte x = (is_name_character x ≡ false) × ((x == 37) ≡ false) × (is_hexadecimal x ≡ false) × ((x == 46) ≡ false)

varchar_lacks : (x : ℕ) → IsNoNameByte x → (v : List ℕ) → IsVarchar v → LacksByte x v
varchar_lacks x n v (character_varchar c h) = (class_lacks is_name_character x n.0 c h, tt)
varchar_lacks x n v (triplet_varchar c high low h) = grind (arith, and_parts)

varname_lacks : (x : ℕ) → IsNoNameByte x → (name : List ℕ) → IsVarname name → LacksByte x name
varname_lacks x n name (first_varchar v h) = varchar_lacks x n v h
varname_lacks x n name (next_varchar m v h k) = lacks-append x m v (varname_lacks x n m h) (varchar_lacks x n v k)
varname_lacks x n name (dotted_varchar m v h k) =
    lacks-append x m (46 ∷ v) (varname_lacks x n m h) (class_lacks (λ b. b == 46) x n.3 46 refl, varchar_lacks x n v k)

pub name_is_token : (name : List ℕ) → IsName name → IsToken name
name_is_token name h = varname_lacks 32 (refl, refl, refl, refl) name h.0

pub star_is_no_name : IsName (42 ∷ []) → ⊥
star_is_no_name h = (varname_lacks 42 (refl, refl, refl, refl) (42 ∷ []) h.0).0 refl

digits_are_token : (t : List ℕ) → list_all is_ascii_digit t ≡ true → IsToken t
digits_are_token [] h = tt
digits_are_token (b ∷ t) h =
    let parts : (is_ascii_digit b ≡ true) × (list_all is_ascii_digit t ≡ true) = and_parts _ _ h in
    (class_lacks is_ascii_digit 32 refl b parts.0, digits_are_token t parts.1)

pub bound_is_token : (b : Bound) → IsBound b → IsToken (bound_text b)
bound_is_token bound.Open h = (class_lacks (λ b. b == 42) 32 refl 42 refl, tt)
bound_is_token (bound.Digits digits) h = digits_are_token digits h.0
bound_is_token (bound.Name name) h = name_is_token name h.0
