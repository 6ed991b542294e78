-- The lines of rules have no first error, and any other lines have at most one.

use Rattle.std.proofs.Common.{◌≡◌, ℕ, List, [], ◌∷◌, ◌++◌, Some, None, ◌⊎◌, inl, inr, map, length, refl, ap, subst, sym, ◌∙◌, arith}
use Rattle.std.specs.Str.Lines.{lines}
use Rattle.std.proofs.lemmas.List.{append-nil}
use Rattle.std.proofs.lemmas.Grind.{common_steps}
use Rattle.text_model.specs.Texts.{Text}
use Rattle.text_model.proofs.Lists.{same_parts}
use Rattle.rule_parser.specs.declared.error.RuleErrorKind.{RuleErrorKind}
use Rattle.rule_parser.specs.declared.error.RuleErrorKind.TheVariants as kind
use Rattle.rule_parser.specs.declared.rule.Guard.{Guard}
use Rattle.rule_parser.specs.Rules.{RuleSet, IsSound}
use Rattle.rule_parser.specs.Statements.{Statement, Begin, line_of, statements}
use Rattle.rule_parser.specs.Grammar.{significant, IsRuleText}
use Rattle.rule_parser.specs.Faults.{RulesSoFar, AreSoundSoFar, statements_so_far, IsLineFault, EndsRule, IsRefused}
use Rattle.rule_parser.proofs.LineNumbers.{line_number, IsNumberedFault, line_fault, open_rule as open_fault, numbered_fault}
use Rattle.rule_parser.proofs.LawLemmas.{OneTree, Follows, so_far_same, continues}
use Rattle.rule_parser.proofs.LineLaws.{statement_same, HasNext, compare}
use Rattle.rule_parser.proofs.FaultLaws.{IsBadText, NoFault, OneFault, bad_text, bad_text_same, begin_is_not_faulty, complete, complete_is_sound}
use Rattle.rule_parser.proofs.FaultLaws.{faulty_is_no_next, so_far_are_statements}

-- of two beginnings of rules, the longer one continues the shorter one
extends_not : OneTree → NoFault → (b c : RulesSoFar) (line : Text) (k : RuleErrorKind) (rest : List Text) → AreSoundSoFar b → AreSoundSoFar c
    → IsLineFault b line k
    → HasNext (statements_so_far b) (statements_so_far c) (line ∷ rest) → ⊥
extends_not tree none b c line k rest s t fault n = grind (arith, continues, faulty_is_no_next)

nothing_next : (ss ts : List Statement) → HasNext ss ts [] → ⊥
nothing_next ss ts n = grind (arith, common_steps)

-- while a rule has no link, no other rule can begin
open_not_extended : OneTree → (whole : RuleSet) (guards : List Guard) (c : RulesSoFar) (rest : List Text)
    → AreSoundSoFar (record { whole = whole; guards = Some guards })
    → AreSoundSoFar c → EndsRule rest → HasNext (statements_so_far (record { whole = whole; guards = Some guards })) (statements_so_far c) rest → ⊥
open_not_extended tree whole guards c [] s t r n = nothing_next (statements_so_far (record { whole = whole; guards = Some guards })) (statements_so_far c) n
open_not_extended tree whole guards c (line ∷ rest) s t r n =
    let b : RulesSoFar = record { whole = whole; guards = Some guards } in
    let next = continues tree b c n.next n.more s t n.continues in
    let begin : n.next ≡ Begin = statement_same n.next Begin n.is_statement tt (sym (same_parts line (line_of n.next) rest n.rest n.spelled).0 ∙ r) in
    no_begin (subst (λ x. Follows b x next.0) begin next.1).0
  where
    no_begin : Some guards ≡ None → ⊥
    no_begin e = cc

spelled_by : (ls : List Text) (rules : RuleSet) → significant ls ≡ map line_of (statements rules)
    → significant ls ≡ map line_of (statements_so_far (complete rules)) ++ []
spelled_by ls rules e = e ∙ sym (ap (map line_of) (append-nil (statements rules))) ∙ sym (append-nil (map line_of (statements_so_far (complete rules))))

abbrev no_lines : List Text
no_lines = []

-- lines of two sets of rules: the sets are the same
pub rules_same : OneTree → (ls : List Text) (rules others : RuleSet) → IsSound rules → IsSound others → significant ls ≡ map line_of (statements rules)
    → significant ls ≡ map line_of (statements others) → rules ≡ others
rules_same tree ls rules others s t e f =
    by_comparison
    (compare (statements_so_far (complete rules)) (statements_so_far (complete others)) [] []
    (so_far_are_statements (complete rules) (complete_is_sound rules s))
    (so_far_are_statements (complete others) (complete_is_sound others t)) (sym (spelled_by ls rules e) ∙ spelled_by ls others f))
  where
    by_comparison : ((statements_so_far (complete rules) ≡ statements_so_far (complete others)) × (no_lines ≡ no_lines))
        ⊎ (HasNext (statements_so_far (complete rules)) (statements_so_far (complete others)) []
        ⊎ HasNext (statements_so_far (complete others)) (statements_so_far (complete rules)) [])
        → rules ≡ others
    by_comparison (inl p) =
        ap (λ (b : RulesSoFar). b.whole) (so_far_same tree (complete rules) (complete others) (complete_is_sound rules s) (complete_is_sound others t) p.0)
    by_comparison (inr (inl n)) = absurd (nothing_next _ _ n)
    by_comparison (inr (inr n)) = absurd (nothing_next _ _ n)

abbrev open_rule : RuleSet → List Guard → RulesSoFar
open_rule whole guards = record { whole = whole; guards = Some guards }

not_complete : (whole : RuleSet) (guards : List Guard) (rules : RuleSet) → open_rule whole guards ≡ complete rules → ⊥
not_complete whole guards rules e = grind (arith, common_steps)

-- the lines of rules have no first error
rules_have_no_fault : OneTree → NoFault → (ls : List Text) (rules : RuleSet) (k : RuleErrorKind) (at : ℕ) → IsSound rules
    → significant ls ≡ map line_of (statements rules) → IsNumberedFault ls k at → ⊥
rules_have_no_fault tree none ls rules k at s e (line_fault l b line rest k' t f fault) =
    by_comparison
    (compare (statements_so_far b) (statements_so_far (complete rules)) (line ∷ rest) [] (so_far_are_statements b t)
    (so_far_are_statements (complete rules) (complete_is_sound rules s)) (sym f ∙ spelled_by l rules e))
  where
    not_nothing : line ∷ rest ≡ no_lines → ⊥
    not_nothing x = cc

    by_comparison : ((statements_so_far b ≡ statements_so_far (complete rules)) × (line ∷ rest ≡ no_lines))
        ⊎ (HasNext (statements_so_far b) (statements_so_far (complete rules)) (line ∷ rest)
        ⊎ HasNext (statements_so_far (complete rules)) (statements_so_far b) no_lines) → ⊥
    by_comparison (inl p) = not_nothing p.1
    by_comparison (inr (inl n)) = extends_not tree none b (complete rules) line k' rest t (complete_is_sound rules s) fault n
    by_comparison (inr (inr n)) = nothing_next _ _ n
rules_have_no_fault tree none ls rules k at s e (open_fault l whole guards rest t f r) =
    by_comparison
    (compare (statements_so_far (open_rule whole guards)) (statements_so_far (complete rules)) rest [] (so_far_are_statements (open_rule whole guards) t)
    (so_far_are_statements (complete rules) (complete_is_sound rules s)) (sym f ∙ spelled_by l rules e))
  where
    by_comparison : ((statements_so_far (open_rule whole guards) ≡ statements_so_far (complete rules)) × (rest ≡ no_lines))
        ⊎ (HasNext (statements_so_far (open_rule whole guards)) (statements_so_far (complete rules)) rest
        ⊎ HasNext (statements_so_far (complete rules)) (statements_so_far (open_rule whole guards)) no_lines) → ⊥
    by_comparison (inl p) =
        not_complete whole guards rules
        (so_far_same tree (open_rule whole guards) (complete rules) t (complete_is_sound rules s) p.0)
    by_comparison (inr (inl n)) = open_not_extended tree whole guards (complete rules) rest t (complete_is_sound rules s) r n
    by_comparison (inr (inr n)) = nothing_next _ _ n

-- a faulty line, and a rule without its link, cannot both be the first error
line_and_open : OneTree → NoFault → (ls : List Text) (b : RulesSoFar) (line : Text) (rest : List Text) (k : RuleErrorKind) (whole : RuleSet)
    (guards : List Guard)
    (following : List Text) → AreSoundSoFar b → significant ls ≡ map line_of (statements_so_far b) ++ line ∷ rest → IsLineFault b line k
    → AreSoundSoFar (open_rule whole guards)
    → significant ls ≡ map line_of (statements_so_far (open_rule whole guards)) ++ following → EndsRule following → ⊥
line_and_open tree none ls b line rest k whole guards following s e fault t f r =
    by_comparison
    (compare (statements_so_far b) (statements_so_far (open_rule whole guards)) (line ∷ rest) following (so_far_are_statements b s)
    (so_far_are_statements (open_rule whole guards) t) (sym e ∙ f))
  where
    by_comparison : ((statements_so_far b ≡ statements_so_far (open_rule whole guards)) × (line ∷ rest ≡ following))
        ⊎ (HasNext (statements_so_far b) (statements_so_far (open_rule whole guards)) (line ∷ rest)
        ⊎ HasNext (statements_so_far (open_rule whole guards)) (statements_so_far b) following) → ⊥
    by_comparison (inl p) = begin_is_not_faulty b line k fault (subst EndsRule (sym p.1) r)
    by_comparison (inr (inl n)) = extends_not tree none b (open_rule whole guards) line k rest s t fault n
    by_comparison (inr (inr n)) = open_not_extended tree whole guards b following t s r n

-- a faulty line, and another first error of the same lines, are the same
line_fault_same : OneTree → NoFault → OneFault → (ls : List Text) (b : RulesSoFar) (line : Text) (rest : List Text) (k : RuleErrorKind) (other : RuleErrorKind)
    (place : ℕ)
    → AreSoundSoFar b → significant ls ≡ map line_of (statements_so_far b) ++ line ∷ rest → IsLineFault b line k → IsNumberedFault ls other place
    → (k ≡ other) × (line_number ls (length (statements_so_far b)) ≡ place)
line_fault_same tree none one ls b line rest k other place s e fault (line_fault l c line' rest' k' t f fault') =
    by_comparison
    (compare (statements_so_far b) (statements_so_far c) (line ∷ rest) (line' ∷ rest') (so_far_are_statements b s) (so_far_are_statements c t) (sym e ∙ f))
  where
    by_comparison : ((statements_so_far b ≡ statements_so_far c) × (line ∷ rest ≡ line' ∷ rest'))
        ⊎ (HasNext (statements_so_far b) (statements_so_far c) (line ∷ rest) ⊎ HasNext (statements_so_far c) (statements_so_far b) (line' ∷ rest'))
        → (k ≡ k') × (line_number l (length (statements_so_far b)) ≡ line_number l (length (statements_so_far c)))
    by_comparison (inl p) = (
      bad_text_same tree none one b line k k' (bad_text b line k fault)
          (subst (λ (x : RulesSoFar). IsBadText x line k') (sym (so_far_same tree b c s t p.0))
          (subst (λ x. IsBadText c x k') (sym (same_parts line line' rest rest' p.1).0) (bad_text c line' k' fault'))),
      ap (λ ss. line_number l (length ss)) p.0,
    )
    by_comparison (inr (inl n)) = absurd (extends_not tree none b c line k rest s t fault n)
    by_comparison (inr (inr n)) = absurd (extends_not tree none c b line' k' rest' t s fault' n)
line_fault_same tree none one ls b line rest k other place s e fault (open_fault l whole guards rest' t f r) =
    absurd (line_and_open tree none l b line rest k whole guards rest' s e fault t f r)

-- a rule without a link, and another first error of the same lines, are the same
open_fault_same : OneTree → NoFault → OneFault → (ls : List Text) (whole : RuleSet) (guards : List Guard) (rest : List Text) (other : RuleErrorKind) (place : ℕ)
    → AreSoundSoFar (open_rule whole guards) → significant ls ≡ map line_of (statements_so_far (open_rule whole guards)) ++ rest → EndsRule rest
    → IsNumberedFault ls other place → (kind.NoLink ≡ other) × (line_number ls (length (statements whole)) ≡ place)
open_fault_same tree none one ls whole guards rest other place s e r (line_fault l b line rest' k' t f fault) =
    absurd (line_and_open tree none l b line rest' k' whole guards rest t f fault s e r)
open_fault_same tree none one ls whole guards rest other place s e r (open_fault l whole' guards' rest' t f q) =
    by_comparison
    (compare (statements_so_far (open_rule whole guards)) (statements_so_far (open_rule whole' guards')) rest rest'
    (so_far_are_statements (open_rule whole guards) s) (so_far_are_statements (open_rule whole' guards') t)
    (sym e ∙ f))
  where
    by_comparison : ((statements_so_far (open_rule whole guards) ≡ statements_so_far (open_rule whole' guards')) × (rest ≡ rest'))
        ⊎ (HasNext (statements_so_far (open_rule whole guards)) (statements_so_far (open_rule whole' guards')) rest
        ⊎ HasNext (statements_so_far (open_rule whole' guards')) (statements_so_far (open_rule whole guards)) rest')
        → (kind.NoLink ≡ kind.NoLink) × (line_number l (length (statements whole)) ≡ line_number l (length (statements whole')))
    by_comparison (inl p) = (
      refl,
      ap (λ (b : RulesSoFar). line_number l (length (statements b.whole)))
          (so_far_same tree (open_rule whole guards) (open_rule whole' guards') s t p.0),
    )
    by_comparison (inr (inl n)) = absurd (open_not_extended tree whole guards (open_rule whole' guards') rest s t r n)
    by_comparison (inr (inr n)) = absurd (open_not_extended tree whole' guards' (open_rule whole guards) rest' t s q n)

-- two first errors are one
first_faults_same : OneTree → NoFault → OneFault → (ls : List Text) (k other : RuleErrorKind) (at place : ℕ) → IsNumberedFault ls k at
    → IsNumberedFault ls other place
    → (k ≡ other) × (at ≡ place)
first_faults_same tree none one ls k other at place (line_fault l b line rest k' s e fault) q =
    line_fault_same tree none one l b line rest k' other place s e fault q
first_faults_same tree none one ls k other at place (open_fault l whole guards rest s e r) q =
    open_fault_same tree none one l whole guards rest other place s e r q

-- ---- bytes

pub no_refusal : OneTree → NoFault → (bytes : Text) (rules : RuleSet) (k : RuleErrorKind) (line : ℕ) → IsRuleText bytes rules → IsRefused bytes k line → ⊥
no_refusal tree none bytes rules k line a (inl f) = omega (arith, f.0, a.short)
no_refusal tree none bytes rules k line a (inr (inl f)) = f.1 a.utf8
no_refusal tree none bytes rules k line a (inr (inr f)) =
    rules_have_no_fault tree none (lines bytes) rules k line a.sound a.spelled (numbered_fault (lines bytes) k line f.2)

pub one_refusal : OneTree → NoFault → OneFault → (bytes : Text) (k other : RuleErrorKind) (line place : ℕ) → IsRefused bytes k line
    → IsRefused bytes other place
    → (k ≡ other) × (line ≡ place)
one_refusal tree none one bytes k other line place (inl p) (inl q) = (p.1 ∙ sym q.1, p.2 ∙ sym q.2)
one_refusal tree none one bytes k other line place (inl p) (inr (inl q)) = absurd (omega (arith, p.0, q.0))
one_refusal tree none one bytes k other line place (inl p) (inr (inr q)) = absurd (omega (arith, p.0, q.0))
one_refusal tree none one bytes k other line place (inr (inl p)) (inl q) = absurd (omega (arith, p.0, q.0))
one_refusal tree none one bytes k other line place (inr (inl p)) (inr (inl q)) = (p.2 ∙ sym q.2, p.3 ∙ sym q.3)
one_refusal tree none one bytes k other line place (inr (inl p)) (inr (inr q)) = absurd (p.1 q.1)
one_refusal tree none one bytes k other line place (inr (inr p)) (inl q) = absurd (omega (arith, p.0, q.0))
one_refusal tree none one bytes k other line place (inr (inr p)) (inr (inl q)) = absurd (q.1 p.1)
one_refusal tree none one bytes k other line place (inr (inr p)) (inr (inr q)) =
    first_faults_same tree none one (lines bytes) k other line place (numbered_fault (lines bytes) k line p.2)
    (numbered_fault (lines bytes) other place q.2)
