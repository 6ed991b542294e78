-- The names and the literals of code are in the order of first use, and each occurs once.
use Rattle.std.proofs.Common.{◌≡◌, List, [], ◌∷◌, ◌++◌, map, refl}
use Rattle.std.specs.Prelude.{codes}
use Rattle.text_model.specs.Texts.{Text}
use Rattle.code_model.specs.Code.{Name, Literal}
use Rattle.uri_grammar.specs.declared.parts.Op.TheVariants as operator
use Rattle.uri_grammar.specs.declared.parts.Part.TheVariants.{Expression}
use Rattle.uri_grammar.specs.declared.parts.Part.TheVariants as part
use Rattle.rule_parser.specs.declared.rule.Bound.TheVariants as bound
use Rattle.rule_parser.specs.declared.rule.Guard.TheVariants as guard
use Rattle.rule_parser.specs.Rules.{RuleSet}
use Rattle.machine_model.proofs.Listings.{list_name, text_name, link_text, compared_text}
use Rattle.compiler_model.specs.Compiled.{code_of}
use Rattle.compiler_model.proofs.ExampleRules.{plain, variable, rule, rules_of, one_rule}

abbrev a : Text
a = codes "a"

abbrev b : Text
b = codes "b"

abbrev c : Text
c = codes "c"

abbrev d : Text
d = codes "d"

abbrev names : RuleSet → List Name
names rules = (code_of rules).names

abbrev literals : RuleSet → List Literal
literals rules = (code_of rules).literals

abbrev texts_d_to_a : List Name
texts_d_to_a = text_name d ∷ text_name c ∷ text_name b ∷ text_name a ∷ []

-- ---- names

-- a guard's name is before its low bound, and that before its high one
names_in_a_guard : names (one_rule (guard.Has d ∷ guard.Between c (bound.Name b) (bound.Name a) ∷ []) []) ≡ texts_d_to_a
names_in_a_guard = refl

-- guards are before the link, and the link's names are in their order
guards_before_link : names (one_rule (guard.Has d ∷ []) (variable c ∷ Expression operator.Slash (plain b ∷ plain a ∷ []) ∷ [])) ≡ texts_d_to_a
guards_before_link = refl

-- a rule's names are before those of the next one; a name that is used again keeps its place
rule_after_rule :
    names (rules_of (rule (guard.Has d ∷ []) (variable c ∷ []) ∷ rule (guard.Has c ∷ guard.Given b ∷ []) (variable d ∷ variable a ∷ variable b ∷ []) ∷ []))
    ≡ texts_d_to_a
rule_after_rule = refl

-- each name has the kind that is declared; the order of the declarations does not matter
kinds_as_declared :
    names (record { lists = a ∷ b ∷ []; rules = rule (guard.Has c ∷ []) (variable b ∷ variable (codes "rft.au") ∷ variable a ∷ []) ∷ [] })
    ≡ text_name c ∷ list_name b ∷ list_name (codes "rft.au") ∷ list_name a ∷ []
kinds_as_declared = refl

-- a declared list that no rule uses is not a name of the code
unused_list : names (record { lists = a ∷ []; rules = rule [] (variable b ∷ []) ∷ [] }) ≡ text_name b ∷ []
unused_list = refl

-- one name, used as a text and as a list, gives two entries
name_of_each_kind : names (one_rule (guard.Given a ∷ guard.Holds a b ∷ []) []) ≡ text_name a ∷ list_name a ∷ []
name_of_each_kind = refl

-- ---- literals

literals_in_order :
    literals (
    one_rule (guard.Same d d ∷ guard.Holds (codes "rft.au") c ∷ guard.Between b (bound.Digits (codes "7")) bound.Open ∷ [])
    (part.Literal a ∷ variable b ∷ part.Literal c ∷ []))
    ≡ map compared_text (d ∷ c ∷ [] ∷ codes "1" ∷ codes "7" ∷ []) ++ map link_text (a ∷ codes "," ∷ c ∷ [])
literals_in_order = refl

-- one text, used as a comparison text and as a link text, gives two literals
literal_of_each_kind : literals (one_rule (guard.Same a b ∷ []) (part.Literal b ∷ part.Literal b ∷ [])) ≡ compared_text b ∷ link_text b ∷ []
literal_of_each_kind = refl
