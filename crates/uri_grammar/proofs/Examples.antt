-- Texts with their trees, and texts with their first errors, computed from the definitions.

use Rattle.std.proofs.Common.{◌≡◌, ◌≢◌, ℕ, ◌<◌, Bool, true, false, inr, List, [], ◌∷◌, ◌++◌, length, refl, ap, ◌∙◌, sym, subst, arith, append_assoc}
use Rattle.std.proofs.Common.{append-nil, ◌==◌, not, codes, encode_utf8_all}
use Rattle.std.specs.Prelude.{nat_le, nat_lt}
use Rattle.std.specs.List.{list_all}
use Rattle.std.proofs.lemmas.Bool.{eq-eqb, leb-true, ltb-true, and_parts, false≢true}
use Rattle.std.proofs.lemmas.List.Elements.{All-nil, All-cons}
use Rattle.text_model.specs.Texts.{is_unreserved, is_reserved}
use Rattle.text_model.specs.Writing.{written_ur}
use Rattle.text_model.specs.Number.{value_from}
use Rattle.uri_grammar.specs.Characters.{open_brace, close_brace, comma}
use Rattle.uri_grammar.specs.declared.error.TemplateErrorKind.{TemplateErrorKind}
use Rattle.uri_grammar.specs.declared.parts.Op.{Op}
use Rattle.uri_grammar.specs.declared.parts.Op.TheVariants as operator
use Rattle.uri_grammar.specs.declared.parts.Part.{Part}
use Rattle.uri_grammar.specs.declared.parts.Part.TheVariants.{Literal, Expression}
use Rattle.uri_grammar.specs.declared.parts.Spec.{Spec}
use Rattle.uri_grammar.specs.Names.{is_name_character, IsVarname, first_varchar, next_varchar, dotted_varchar, character_varchar}
use Rattle.uri_grammar.specs.Literals.{is_literal_character, AreLiterals, no_literals, literal_character}
use Rattle.uri_grammar.specs.Specs.{IsModifier, no_modifier, prefix_modifier, IsSpec, Lacks, SpellsSpecs}
use Rattle.uri_grammar.specs.Templates.{Spells}
use Rattle.uri_grammar.specs.Expressions.{begins_with_operator, begins_with_reserved, HasOperator}
use Rattle.uri_grammar.specs.Faults.{IsFirstFault}
use Rattle.uri_grammar.specs.Texts.{IsTemplate, IsRefusedTemplate}
use Rattle.uri_grammar.proofs.NameLemmas.{encodes_ascii}

-- ---- tests that compute

pub lacks : (c : ℕ) (cs : List ℕ) → list_all (λ x. not (x == c)) cs ≡ true → Lacks c cs
lacks c [] t = All-nil (λ x. x ≢ c)
lacks c (x ∷ xs) t =
    let tests = and_parts (not (x == c)) (list_all (λ y. not (y == c)) xs) t in
    All-cons (λ y. y ≢ c) x xs (λ e. false≢true (sym (ap not (eq-eqb x c e)) ∙ tests.0)) (lacks c xs tests.1)

pub word_more : (name cs : List ℕ) → IsVarname name → list_all is_name_character cs ≡ true → IsVarname (name ++ cs)
word_more name [] h t = subst IsVarname (sym (append-nil name)) h
word_more name (c ∷ cs) h t =
    let tests = and_parts (is_name_character c) (list_all is_name_character cs) t in
    subst IsVarname (append_assoc name (c ∷ []) cs) (word_more (name ++ c ∷ []) cs (next_varchar name (c ∷ []) h (character_varchar c tests.0)) tests.1)

-- letters, digits and `_` are a name
pub word : (c : ℕ) (cs : List ℕ) → is_name_character c ≡ true → list_all is_name_character cs ≡ true → IsVarname (c ∷ cs)
word c cs s t = word_more (c ∷ []) cs (first_varchar (c ∷ []) (character_varchar c s)) t

-- text of ASCII
plain : (cs : List ℕ) → list_all (λ c. nat_lt c 128) cs ≡ true → encode_utf8_all cs ≡ cs
plain [] t = refl
plain (c ∷ cs) t =
    let tests = and_parts (nat_lt c 128) (list_all (λ x. nat_lt x 128) cs) t in
    encodes_ascii c cs (ltb-true c 128 tests.0) (plain cs tests.1)

has_tree : (cs : List ℕ) (parts : List Part) → list_all (λ c. nat_lt c 128) cs ≡ true → nat_le (length cs) 8192 ≡ true → Spells cs parts → IsTemplate cs parts
has_tree cs parts a t s = (leb-true (length cs) 8192 t, cs, sym (plain cs a), s)

pub refused : (cs : List ℕ) (k : TemplateErrorKind) (at : ℕ) → list_all (λ c. nat_lt c 128) cs ≡ true → nat_le (length cs) 8192 ≡ true → IsFirstFault cs k at
    → IsRefusedTemplate cs k at
refused cs k at a t f = inr (leb-true (length cs) 8192 t, cs, sym (plain cs a), f)

pub characters : (cs : List ℕ) → list_all is_literal_character cs ≡ true → AreLiterals cs
characters [] t = no_literals
characters (c ∷ cs) t =
    let tests = and_parts (is_literal_character c) (list_all is_literal_character cs) t in
    literal_character c cs tests.0 (characters cs tests.1)

pub no_operator : (list : List ℕ) → begins_with_reserved list ≡ false → begins_with_operator list ≡ false → HasOperator list operator.Simple list
no_operator list r o = record { whole = refl; not_reserved = r; chosen = λ _. o }

pub spec_of : List ℕ → ℕ → Bool → Spec
spec_of name cut explode = record { name = name; cut = cut; explode = explode }

pub spelled_spec : (name after : List ℕ) (cut : ℕ) (explode : Bool) → IsVarname name → nat_le (length name) 255 ≡ true → IsModifier after cut explode
    → IsSpec (name ++ after) (spec_of name cut explode)
unfolding spec_of
spelled_spec name after cut explode h t m = record { after = after; whole = refl; is_name = (h, leb-true (length name) 255 t); modified = m }

-- ---- trees

-- one expression with one spec: the body, its operator and the list after it
one_expression : (body list : List ℕ) (op : Op) (spec : Spec) → Lacks close_brace body → HasOperator body op list → Lacks comma list → IsSpec list spec
    → Spells (open_brace ∷ body ++ close_brace ∷ []) (Expression op (spec ∷ []) ∷ [])
one_expression body list op spec l o m is =
    let specs : SpellsSpecs (list ++ comma ∷ []) (spec ∷ []) = ([], record { piece = list; whole = refl; lacks = m; is_spec = is }, refl) in
    ([], record { body = body; whole = refl; lacks = l; is_body = (list, o, specs) }, refl)

expression : IsTemplate (codes "{hello}") (Expression operator.Simple (spec_of (codes "hello") 0 false ∷ []) ∷ [])
expression =
    has_tree (codes "{hello}") (Expression operator.Simple (spec_of (codes "hello") 0 false ∷ []) ∷ []) refl refl
    (one_expression (codes "hello") (codes "hello") operator.Simple (spec_of (codes "hello") 0 false) (lacks close_brace (codes "hello") refl)
    (no_operator (codes "hello") refl refl) (lacks comma (codes "hello") refl)
    (spelled_spec (codes "hello") [] 0 false (word 104 (codes "ello") refl refl) refl no_modifier))

dotted : IsTemplate (codes "{?rft.au}") (Expression operator.Question (spec_of (codes "rft.au") 0 false ∷ []) ∷ [])
dotted =
    has_tree (codes "{?rft.au}") (Expression operator.Question (spec_of (codes "rft.au") 0 false ∷ []) ∷ []) refl refl
    (one_expression (codes "?rft.au") (codes "rft.au") operator.Question (spec_of (codes "rft.au") 0 false) (lacks close_brace (codes "?rft.au") refl)
    (record { whole = refl; not_reserved = refl; chosen = λ e. absurd (let never : ⊥ = cc in never) }) (lacks comma (codes "rft.au") refl)
    (spelled_spec (codes "rft.au") [] 0 false
    (word_more (codes "rft.a") (codes "u") (dotted_varchar (codes "rft") (codes "a") (word 114 (codes "ft") refl refl) (character_varchar 97 refl)) refl)
    refl no_modifier))

-- a prefix of four digits is the longest
longest_prefix : IsTemplate (codes "{a:9999}") (Expression operator.Simple (spec_of (codes "a") 9999 false ∷ []) ∷ [])
unfolding value_from
longest_prefix =
    has_tree (codes "{a:9999}") (Expression operator.Simple (spec_of (codes "a") 9999 false ∷ []) ∷ []) refl refl
    (one_expression (codes "a:9999") (codes "a:9999") operator.Simple (spec_of (codes "a") 9999 false) (lacks close_brace (codes "a:9999") refl)
    (no_operator (codes "a:9999") refl refl) (lacks comma (codes "a:9999") refl)
    (spelled_spec (codes "a") (codes ":9999") 9999 false (word 97 [] refl refl) refl (prefix_modifier (codes "9999") refl)))

-- consecutive literals are one part, as they are written in a link
literals : IsTemplate (codes "it's/") (Literal (codes "it's/") ∷ [])
unfolding is_unreserved is_reserved written_ur is_literal_character
literals =
    let some : 0 < length (codes "it's/") = omega arith in
    has_tree (codes "it's/") (Literal (codes "it's/") ∷ []) refl refl (
      [],
      record {
        raw = codes "it's/";
        whole = refl;
        some = some;
        are_literals = characters (codes "it's/") refl;
        is_written = ap written_ur (sym (plain (codes "it's/") refl));
      },
      tt,
      refl,
    )
