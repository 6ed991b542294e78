-- The whole code of small rule sets, and the bytes of its file.
use Rattle.std.proofs.Common.{◌≡◌, [], ◌∷◌, Some, None, refl}
use Rattle.std.specs.Prelude.{codes}
use Rattle.code_model.specs.Code.{reading}
use Rattle.code_model.specs.declared.code.Instruction.TheVariants as instruction
use Rattle.uri_grammar.specs.declared.parts.Part.TheVariants.{Literal}
use Rattle.rule_parser.specs.declared.rule.Guard.TheVariants as guard
use Rattle.rule_parser.specs.Rules.{RuleSet}
use Rattle.machine_model.proofs.Listings.{text_name, link_text, compared_text, code, issn_code, authors_code}
use Rattle.machine_model.specs.Operands.{has_right_operands}
use Rattle.machine_model.specs.Next.{course_from, outcome_of}
use Rattle.compiler_model.specs.Answer.{answer}
use Rattle.compiler_model.specs.Compiled.{code_of}
use Rattle.compiler_model.specs.Size.{file_size}
use Rattle.compiler_model.proofs.ExampleRules.{issn_rule, authors_rule, date_rule, one_rule, rules_of, rule, variable}

no_rules : code_of (rules_of []) ≡ code [] [] (instruction.Fail ∷ [])
no_rules = refl

empty_link : code_of (one_rule [] []) ≡ code [] [] (instruction.Halt ∷ instruction.Fail ∷ [])
empty_link = refl

-- without a rule there is no link, which is not the empty link
no_rules_answer : outcome_of (code_of (rules_of [])) [] ≡ answer None
unfolding course_from reading has_right_operands
no_rules_answer = refl

empty_link_answer : outcome_of (code_of (one_rule [] [])) [] ≡ answer (Some [])
unfolding course_from reading has_right_operands
empty_link_answer = refl

-- ---- one text

issn_compiled : code_of issn_rule ≡ issn_code
issn_compiled = refl

issn_size : file_size (code_of issn_rule) ≡ 127
issn_size = refl

-- ---- counting

authors_compiled : code_of authors_rule ≡ authors_code
authors_compiled = refl

authors_size : file_size (code_of authors_rule) ≡ 193
authors_size = refl

-- ---- bounds by name, and a value written with reserved characters

date_compiled : code_of date_rule ≡
    code
    (text_name (codes "rft.date")
    ∷ text_name (codes "date_first_issue_online")
    ∷ text_name (codes "date_last_issue_online")
    ∷ text_name (codes "title_url")
    ∷ [])
    (compared_text [] ∷ link_text (codes ",") ∷ compared_text (codes "1") ∷ [])
    (instruction.Text 0 0
    ∷ instruction.Undef 0 19
    ∷ instruction.Number 1 0 19
    ∷ instruction.Text 2 1
    ∷ instruction.Undef 2 7
    ∷ instruction.Number 3 2 7
    ∷ instruction.Less 1 3 19
    ∷ instruction.Text 2 2
    ∷ instruction.Undef 2 11
    ∷ instruction.Number 3 2 11
    ∷ instruction.Less 3 1 19
    ∷ instruction.Const 4 0
    ∷ instruction.Text 0 3
    ∷ instruction.Undef 0 18
    ∷ instruction.Empty 4 16
    ∷ instruction.Emit 1
    ∷ instruction.Const 4 2
    ∷ instruction.Put 0 1
    ∷ instruction.Halt
    ∷ instruction.Fail
    ∷ [])
date_compiled = refl

date_size : file_size (code_of date_rule) ≡ 251
date_size = refl

-- ---- rules one after another: a rule whose guard fails continues with the next one; one text is a literal of each kind

abbrev two_rules : RuleSet
two_rules =
    rules_of (
    rule (guard.Same (codes "a") (codes "b") ∷ []) (Literal (codes "b") ∷ [])
    ∷ rule (guard.Same (codes "a") (codes "b") ∷ []) (Literal (codes "b") ∷ variable (codes "a") ∷ [])
    ∷ [])

two_rules_compiled : code_of two_rules ≡
    code (text_name (codes "a") ∷ [])
    (compared_text (codes "b") ∷ link_text (codes "b") ∷ compared_text [] ∷ link_text (codes ",") ∷ compared_text (codes "1") ∷ [])
    (instruction.Text 0 0
    ∷ instruction.Undef 0 6
    ∷ instruction.Const 1 0
    ∷ instruction.Differ 0 1 6
    ∷ instruction.Emit 1
    ∷ instruction.Halt
    ∷ instruction.Text 0 0
    ∷ instruction.Undef 0 19
    ∷ instruction.Const 1 0
    ∷ instruction.Differ 0 1 19
    ∷ instruction.Emit 1
    ∷ instruction.Const 4 2
    ∷ instruction.Text 0 0
    ∷ instruction.Undef 0 18
    ∷ instruction.Empty 4 16
    ∷ instruction.Emit 3
    ∷ instruction.Const 4 4
    ∷ instruction.Put 0 0
    ∷ instruction.Halt
    ∷ instruction.Fail
    ∷ [])
two_rules_compiled = refl
