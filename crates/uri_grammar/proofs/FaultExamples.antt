-- Examples of errors.

use Rattle.std.proofs.Common.{◌≡◌, ℕ, ◌+◌, ◌<◌, true, false, inr, None, List, [], ◌∷◌, ◌++◌, length, refl, ap, arith, append-nil, ◌==◌, not, codes}
use Rattle.std.proofs.Common.{encode_utf8, encode_utf8_all}
use Rattle.std.specs.List.{list_all}
use Rattle.std.proofs.lemmas.Bool.{eq-eqb, leb-true, false≢true}
use Rattle.std.proofs.lemmas.Str.{length-encode}
use Rattle.text_model.specs.Writing.{written_ur}
use Rattle.text_model.specs.Number.{value_from}
use Rattle.uri_grammar.specs.Characters.{open_brace, close_brace, comma}
use Rattle.uri_grammar.specs.declared.error.TemplateErrorKind.{TemplateErrorKind}
use Rattle.uri_grammar.specs.declared.error.TemplateErrorKind.TheVariants as kind
use Rattle.uri_grammar.specs.declared.parts.Op.TheVariants as operator
use Rattle.uri_grammar.specs.declared.parts.Part.TheVariants.{Literal}
use Rattle.uri_grammar.specs.Private.Lengths.{next_len}
use Rattle.uri_grammar.specs.Names.{BeginsWithVarname}
use Rattle.uri_grammar.specs.Literals.{is_literal_character}
use Rattle.uri_grammar.specs.Specs.{no_modifier, Lacks}
use Rattle.uri_grammar.specs.Private.Reading.{modifier_of}
use Rattle.uri_grammar.specs.Expressions.{begins_with_operator, begins_with_reserved}
use Rattle.uri_grammar.specs.Faults.{begins_with_modifier, IsSpecFault, IsListFault, IsBodyFault, IsPartFault, bad_name, bad_modifier, reserved_operator}
use Rattle.uri_grammar.specs.Faults.{bad_list, bad_literal, unclosed, empty_expression, bad_expression, IsFirstFault}
use Rattle.uri_grammar.specs.Texts.{IsRefusedTemplate}
use Rattle.uri_grammar.proofs.NameLemmas.{ended_varname}
use Rattle.uri_grammar.proofs.SpecLemmas.{modifier_of-none, no_name, bad_follower}
use Rattle.uri_grammar.proofs.Examples.{characters, lacks, no_operator, refused, spec_of, spelled_spec, word}

-- an error of the first part
faulty : (cs : List ℕ) (k : TemplateErrorKind) (d : ℕ) → IsPartFault cs k d → IsFirstFault cs k d
faulty cs k d f = record { front = []; parts = []; rest = cs; distance = d; whole = refl; spelled = refl; fault = f; place = omega arith }

-- `{`, a list, `}`: the error of the list
listed : (list : List ℕ) (k : TemplateErrorKind) (d : ℕ) → 0 < length list → Lacks close_brace list → IsBodyFault list k d
    → IsFirstFault (open_brace ∷ list ++ close_brace ∷ []) k (1 + d)
listed list k d some lack f = faulty (open_brace ∷ list ++ close_brace ∷ []) k (1 + d) (bad_expression list [] k d some lack f)

-- the only spec of a list is faulty
only_spec : (list : List ℕ) (k : TemplateErrorKind) (d : ℕ) → Lacks comma list → IsSpecFault list k d → IsListFault list k d
only_spec list k d lack f = record {
  front = [];
  specs = [];
  piece = list;
  after = [];
  distance = d;
  whole = refl;
  spelled = refl;
  lacks = lack;
  fault = f;
  place = omega arith;
}

letter_a : (after : List ℕ) → next_len after ≡ 0 → BeginsWithVarname (97 ∷ after) (97 ∷ []) after
letter_a after e = ended_varname (97 ∷ after) (97 ∷ []) after refl (word 97 [] refl refl) e

-- the name `a` with an invalid modifier
modified_a : (after : List ℕ) → next_len after ≡ 0 → begins_with_modifier after ≡ true → None ≡ modifier_of after → IsSpecFault (97 ∷ after) kind.BadModifier 1
modified_a after e b none =
    bad_modifier (97 ∷ after) (97 ∷ []) after (record { begins = letter_a after e; short = leb-true 1 255 refl; follows = inr b }) (modifier_of-none after none)

-- a list with one faulty spec and no operator
simple_list : (list : List ℕ) (k : TemplateErrorKind) (d : ℕ) → 0 < length list → list_all (λ x. not (x == close_brace)) list ≡ true
    → list_all (λ x. not (x == comma)) list ≡ true
    → begins_with_reserved list ≡ false → begins_with_operator list ≡ false → IsSpecFault list k d
    → IsFirstFault (open_brace ∷ list ++ close_brace ∷ []) k (1 + (0 + d))
simple_list list k d some l m r o f =
    listed list k (0 + d) some (lacks close_brace list l)
    (bad_list list operator.Simple list k d (no_operator list r o) (only_spec list k d (lacks comma list m) f))

bad_character : IsRefusedTemplate (codes "{a b}") kind.BadName 1
bad_character =
    refused (codes "{a b}") kind.BadName 1 refl refl
    (simple_list (codes "a b") kind.BadName 0 (omega arith) refl refl refl refl
    (bad_name (codes "a b") (bad_follower (codes "a b") (codes "a") (codes " b") (letter_a (codes " b") refl) (omega arith) refl)))

-- a hyphen cannot be in a name
hyphen : IsRefusedTemplate (codes "{a-b}") kind.BadName 1
hyphen =
    refused (codes "{a-b}") kind.BadName 1 refl refl
    (simple_list (codes "a-b") kind.BadName 0 (omega arith) refl refl refl refl
    (bad_name (codes "a-b") (bad_follower (codes "a-b") (codes "a") (codes "-b") (letter_a (codes "-b") refl) (omega arith) refl)))

cut_of_zero : IsRefusedTemplate (codes "{a:0}") kind.BadModifier 2
cut_of_zero =
    refused (codes "{a:0}") kind.BadModifier 2 refl refl
    (simple_list (codes "a:0") kind.BadModifier 1 (omega arith) refl refl refl refl (modified_a (codes ":0") refl refl refl))

cut_of_five_digits : IsRefusedTemplate (codes "{a:10000}") kind.BadModifier 2
unfolding value_from
cut_of_five_digits =
    refused (codes "{a:10000}") kind.BadModifier 2 refl refl
    (simple_list (codes "a:10000") kind.BadModifier 1 (omega arith) refl refl refl refl (modified_a (codes ":10000") refl refl refl))

cut_and_explode : IsRefusedTemplate (codes "{a:3*}") kind.BadModifier 2
cut_and_explode =
    refused (codes "{a:3*}") kind.BadModifier 2 refl refl
    (simple_list (codes "a:3*") kind.BadModifier 1 (omega arith) refl refl refl refl (modified_a (codes ":3*") refl refl refl))

no_spec_after_the_comma : IsRefusedTemplate (codes "{a,}") kind.BadName 3
no_spec_after_the_comma =
    refused (codes "{a,}") kind.BadName 3 refl refl (listed (codes "a,") kind.BadName 2 (omega arith) (lacks close_brace (codes "a,") refl)
    (bad_list (codes "a,") operator.Simple (codes "a,") kind.BadName 2 (no_operator (codes "a,") refl refl) (record {
      front = codes "a,";
      specs = spec_of (codes "a") 0 false ∷ [];
      piece = [];
      after = [];
      distance = 0;
      whole = refl;
      spelled = (
        [],
        record {
          piece = codes "a";
          whole = refl;
          lacks = lacks comma (codes "a") refl;
          is_spec = spelled_spec (codes "a") [] 0 false (word 97 [] refl refl) refl no_modifier;
        },
        refl,
      );
      lacks = lacks comma [] refl;
      fault = bad_name [] (no_name [] refl);
      place = refl;
    })))

reserved : IsRefusedTemplate (codes "{,a}") kind.ReservedOperator 1
reserved =
    refused (codes "{,a}") kind.ReservedOperator 1 refl refl (listed (codes ",a") kind.ReservedOperator 0 (omega arith) (lacks close_brace (codes ",a") refl)
    (reserved_operator (codes ",a") refl))

nothing_after_the_operator : IsRefusedTemplate (codes "{.}") kind.BadName 2
nothing_after_the_operator =
    refused (codes "{.}") kind.BadName 2 refl refl (listed (codes ".") kind.BadName 1 (omega arith) (lacks close_brace (codes ".") refl)
    (bad_list (codes ".") operator.Dot [] kind.BadName 0
    (record { whole = refl; not_reserved = refl; chosen = λ e. absurd (let never : ⊥ = cc in never) })
    (only_spec [] kind.BadName 0 (lacks comma [] refl) (bad_name [] (no_name [] refl)))))

unclosed_brace : IsRefusedTemplate (codes "{a") kind.Unclosed 0
unclosed_brace =
    refused (codes "{a") kind.Unclosed 0 refl refl (faulty (codes "{a") kind.Unclosed 0 (unclosed (codes "a") (lacks close_brace (codes "a") refl)))

empty : IsRefusedTemplate (codes "{}") kind.EmptyExpression 0
empty = refused (codes "{}") kind.EmptyExpression 0 refl refl (faulty (codes "{}") kind.EmptyExpression 0 (empty_expression []))

caret : IsRefusedTemplate (codes "^") kind.BadLiteral 0
unfolding is_literal_character
caret = refused (codes "^") kind.BadLiteral 0 refl refl
    (faulty (codes "^") kind.BadLiteral 0 (bad_literal 94 [] refl (λ e. false≢true (eq-eqb 94 open_brace e))))

-- places count bytes: `é` has two
after_two_bytes : IsFirstFault (0xE9 ∷ codes "%4") kind.BadLiteral 2
unfolding is_literal_character
after_two_bytes = record {
  front = 0xE9 ∷ [];
  parts = Literal (written_ur (encode_utf8_all (0xE9 ∷ []))) ∷ [];
  rest = codes "%4";
  distance = 0;
  whole = refl;
  spelled = ([], record { raw = 0xE9 ∷ []; whole = refl; some = omega arith; are_literals = characters (0xE9 ∷ []) refl; is_written = refl }, tt, refl);
  fault = bad_literal 37 (codes "4") refl (λ e. false≢true (eq-eqb 37 open_brace e));
  place = omega (arith, ap length (append-nil (encode_utf8 0xE9)), length-encode 0xE9);
}
