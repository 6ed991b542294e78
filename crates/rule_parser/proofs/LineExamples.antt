-- Lines that are skipped, lines of rules, and texts with their rules or their first error, computed from the definitions.
use Rattle.std.proofs.Common.{◌++◌, ◌≡◌, ℕ, ◌≤◌, [], ◌∷◌, true, false, Some, None, inl, inr, length, map, refl, codes, arith}
use Rattle.std.specs.Prelude.{nat_le, nat_lt}
use Rattle.std.specs.List.{list_all}
use Rattle.std.specs.Str.{IsAscii}
use Rattle.std.specs.Str.Lines.{lines}
use Rattle.std.proofs.lemmas.Bool.{leb-true, ltb-true, and_parts}
use Rattle.std.proofs.lemmas.List.Elements.{All-nil}
use Rattle.std.proofs.lemmas.Str.{IsUtf8-nil, IsUtf8-from_ascii}
use Rattle.std.proofs.lemmas.Str.Ascii.{IsAscii-cons}
use Rattle.text_model.specs.Texts.{Text}
use Rattle.uri_grammar.specs.Names.{IsName}
use Rattle.rule_parser.specs.declared.rules.TheConstants.{MAX_BYTES}
use Rattle.rule_parser.specs.declared.error.RuleErrorKind.{RuleErrorKind}
use Rattle.rule_parser.specs.declared.error.RuleErrorKind.TheVariants as kind
use Rattle.rule_parser.specs.declared.rule.Bound.TheVariants as bound
use Rattle.rule_parser.specs.declared.rule.Guard.TheVariants as guard
use Rattle.rule_parser.specs.Rules.{RuleSet, IsSound, IsSoundGuard, IsSoundRule}
use Rattle.rule_parser.specs.Statements.{Statement, Declare, Begin, When, Link, IsStatement, line_of, statements}
use Rattle.rule_parser.specs.Grammar.{is_significant, IsRuleText}
use Rattle.rule_parser.specs.Faults.{AreSoundSoFar, no_statement, out_of_order, mismatched_guard, IsFirstRuleError, IsRefused}
use Rattle.rule_parser.proofs.NameChoice.{name_from}

-- ---- lines

skipped :
    map is_significant ([] ∷ codes "#" ∷ codes "# a" ∷ codes ";" ∷ codes " #" ∷ codes " " ∷ codes "rule" ∷ [])
    ≡ false ∷ false ∷ false ∷ true ∷ true ∷ true ∷ true ∷ []
skipped = refl

line_ends : lines (codes "rule\r\n\n#\r\nlink a\r") ≡ codes "rule" ∷ [] ∷ codes "#" ∷ codes "link a\r" ∷ []
line_ends = refl

-- each form of line
all_forms : RuleSet
all_forms = record {
  lists = codes "by" ∷ codes "rft.au" ∷ [];
  rules =
      record {
        guards =
            guard.Has (codes "a") ∷ guard.Lacks (codes "b") ∷ guard.Given (codes "c") ∷ guard.Same (codes "has") (codes "a\"b\\")
            ∷ guard.Holds (codes "by") [] ∷ guard.Between (codes "x") bound.Open (bound.Digits (codes "09"))
            ∷ guard.Counts (codes "by") (bound.Name (codes "to")) (bound.Name (codes "counts")) ∷ [];
        template = record { text = codes "a b"; parts = [] };
      }
      ∷ record { guards = []; template = record { text = []; parts = [] } } ∷ [];
}

spelled :
    map line_of (statements all_forms)
    ≡ lines (codes "list by\nlist rft.au\nrule\nwhen has a\nwhen lacks b\nwhen given c\nwhen has is \"a\\\"b\\\\\"\nwhen by holds \"\"\n"
    ++ codes "when x from * to 09\nwhen by counts to to counts\nlink a b\nrule\nlink \n")
unfolding all_forms
spelled = refl

-- ---- texts

is_ascii_text : (text : Text) → list_all (λ b. nat_lt b 128) text ≡ true → IsAscii text
is_ascii_text [] e = λ i. omega arith
is_ascii_text (b ∷ text) e =
    let tests = and_parts (nat_lt b 128) (list_all (λ x. nat_lt x 128) text) e in
    IsAscii-cons b text (ltb-true b 128 tests.0) (is_ascii_text text tests.1)

text_of : (text : Text) → nat_le (length text) 65536 ≡ true → length text ≤ MAX_BYTES
text_of text t = leb-true (length text) 65536 t

no_rules_are_sound : IsSound (record { lists = []; rules = [] })
no_rules_are_sound = record { names = All-nil IsName; rules = All-nil (IsSoundRule []) }

-- the empty text has no rules, which is no error
nothing : IsRuleText [] (record { lists = []; rules = [] })
nothing = record { short = text_of [] refl; utf8 = IsUtf8-nil; spelled = refl; sound = no_rules_are_sound }

refused : (text : Text) (k : RuleErrorKind) (number : ℕ) → nat_le (length text) 65536 ≡ true → list_all (λ b. nat_lt b 128) text ≡ true
    → IsFirstRuleError (lines text) k number → IsRefused text k number
refused text k number t u f = inr (inr (text_of text t, IsUtf8-from_ascii text (is_ascii_text text u), f))

rule_started : AreSoundSoFar (record { whole = record { lists = []; rules = [] }; guards = Some [] })
rule_started = record { whole = no_rules_are_sound; guards = All-nil (IsSoundGuard []) }

-- a rule has no link when the next one begins; comments count in the numbers of lines
no_link : IsRefused (codes "#\nrule\n\nrule") kind.NoLink 2
no_link =
    refused _ _ _ refl refl (inr (record {
      before = codes "#" ∷ [];
      following = [] ∷ codes "rule" ∷ [];
      rules = record { lists = []; rules = [] };
      guards = [];
      rest = codes "rule" ∷ [];
      whole = refl;
      counted = refl;
      spelled = refl;
      guarded = refl;
      ends = refl;
      sound = rule_started;
      no_link = refl;
    }))

-- authors are a list
authors_as_a_text : IsRefused (codes "rule\nwhen rft.au is \"x\"\nlink http://e.org/") kind.KindMismatch 2
authors_as_a_text =
    refused _ _ _ refl refl (inl (record {
      before = codes "rule" ∷ [];
      line = codes "when rft.au is \"x\"";
      following = codes "link http://e.org/" ∷ [];
      started = record { whole = record { lists = []; rules = [] }; guards = Some [] };
      whole = refl;
      counted = refl;
      spelled = refl;
      sound = rule_started;
      is_no_comment = refl;
      faulty = mismatched_guard _ (guard.Same (codes "rft.au") (codes "x")) refl (name_from (codes "rft.au") refl refl) refl;
    }))

-- a text has no members to be counted
text_counted : IsRefused (codes "rule\nwhen x counts 1 to 2\nlink http://e.org/") kind.KindMismatch 2
text_counted =
    refused _ _ _ refl refl (inl (record {
      before = codes "rule" ∷ [];
      line = codes "when x counts 1 to 2";
      following = codes "link http://e.org/" ∷ [];
      started = record { whole = record { lists = []; rules = [] }; guards = Some [] };
      whole = refl;
      counted = refl;
      spelled = refl;
      sound = rule_started;
      is_no_comment = refl;
      faulty =
          mismatched_guard _ (guard.Counts (codes "x") (bound.Digits (codes "1")) (bound.Digits (codes "2"))) refl
          (name_from (codes "x") refl refl, ((refl, leb-true 1 1 refl, leb-true 1 9 refl), (refl, leb-true 1 1 refl, leb-true 1 9 refl))) refl;
    }))

-- a guard outside of a rule
guard_alone : IsRefused (codes "when has x") kind.BadLine 1
guard_alone =
    refused _ _ _ refl refl (inl (record {
      before = [];
      line = codes "when has x";
      following = [];
      started = record { whole = record { lists = []; rules = [] }; guards = None };
      whole = refl;
      counted = refl;
      spelled = refl;
      sound = record { whole = no_rules_are_sound; guards = tt };
      is_no_comment = refl;
      faulty = out_of_order _ (When (guard.Has (codes "x"))) (name_from (codes "x") refl refl) refl;
    }))

-- a semicolon does not begin a comment
semicolon_is_no_statement : (s : Statement) → IsStatement s → codes ";" ≡ line_of s → ⊥
semicolon_is_no_statement (Declare name) h e = cc
semicolon_is_no_statement Begin h e = cc
semicolon_is_no_statement (When g) h e = cc
semicolon_is_no_statement (Link text) h e = cc

semicolon : IsRefused (codes ";\nrule\nlink a") kind.BadLine 1
semicolon =
    refused _ _ _ refl refl (inl (record {
      before = [];
      line = codes ";";
      following = codes "rule" ∷ codes "link a" ∷ [];
      started = record { whole = record { lists = []; rules = [] }; guards = None };
      whole = refl;
      counted = refl;
      spelled = refl;
      sound = record { whole = no_rules_are_sound; guards = tt };
      is_no_comment = refl;
      faulty = no_statement _ (codes ";") semicolon_is_no_statement;
    }))
