-- The lines of rules have no error, and other lines have one first error.

use Rattle.std.proofs.Common.{◌≡◌, ℕ, List, [], ◌∷◌, true, false, None, ◌⊎◌, inl, inr, refl, ap, subst, sym, ◌∙◌, arith}
use Rattle.std.proofs.lemmas.Bool.{both_ways}
use Rattle.std.proofs.lemmas.Grind.{common_steps}
use Rattle.text_model.specs.Texts.{Text}
use Rattle.uri_grammar.specs.declared.parts.Part.{Part}
use Rattle.uri_grammar.specs.declared.error.TemplateErrorKind.{TemplateErrorKind}
use Rattle.uri_grammar.specs.Texts.{IsTemplate, IsRefusedTemplate}
use Rattle.rule_parser.specs.declared.error.RuleErrorKind.{RuleErrorKind}
use Rattle.rule_parser.specs.declared.error.RuleErrorKind.TheVariants as kind
use Rattle.rule_parser.specs.Rules.{RuleSet, IsSound, guard_fits, parts_fit}
use Rattle.rule_parser.specs.Statements.{Statement, Declare, Begin, When, Link, IsStatement, line_of}
use Rattle.rule_parser.specs.Faults.{RulesSoFar, AreSoundSoFar, statements_so_far, is_in_order, IsLineFault, no_statement, out_of_order, bad_template}
use Rattle.rule_parser.specs.Faults.{mismatched_guard, mismatched_link}
use Rattle.rule_parser.specs.Private.Progress.{no_rules}
use Rattle.rule_parser.proofs.LawLemmas.{OneTree, Follows, Runs, so_far_runs}
use Rattle.rule_parser.proofs.LineLaws.{statement_same, AreStatements}

-- a template's text has no error
abbrev pub NoFault : Type 0
NoFault = (text : Text) (parts : List Part) (k : TemplateErrorKind) (at : ℕ) → IsTemplate text parts → IsRefusedTemplate text k at → ⊥

-- a template's text has one first error
abbrev pub OneFault : Type 0
OneFault = (text : Text) (k other : TemplateErrorKind) (at place : ℕ) → IsRefusedTemplate text k at → IsRefusedTemplate text other place
    → (k ≡ other) × (at ≡ place)

abbrev pub complete : RuleSet → RulesSoFar
complete rules = record { whole = rules; guards = None }

pub complete_is_sound : (rules : RuleSet) → IsSound rules → AreSoundSoFar (complete rules)
complete_is_sound rules s = record { whole = s; guards = tt }

-- ---- statements that follow

follows_is_statement : (b : RulesSoFar) (s : Statement) (c : RulesSoFar) → Follows b s c → IsStatement s
follows_is_statement b s c p = grind (arith, common_steps)

runs_are_statements : (b : RulesSoFar) (ss : List Statement) (c : RulesSoFar) → Runs b ss c → AreStatements ss
runs_are_statements b [] c p = tt
runs_are_statements b (s ∷ ss) c p = (follows_is_statement b s p.0 p.1, runs_are_statements p.0 ss c p.2)

pub so_far_are_statements : (b : RulesSoFar) → AreSoundSoFar b → AreStatements (statements_so_far b)
so_far_are_statements b s = runs_are_statements no_rules (statements_so_far b) b (so_far_runs b s)

follows_in_order : (b : RulesSoFar) (s : Statement) (c : RulesSoFar) → Follows b s c → is_in_order b s ≡ true
follows_in_order b s c p = grind (arith, common_steps)

-- ---- what is wrong with a line, by its statement

abbrev IsBadContent : RulesSoFar → Statement → RuleErrorKind → Type 0
IsBadContent b (Declare name) k = ⊥
IsBadContent b Begin k = ⊥
IsBadContent b (When g) k = (guard_fits b.whole.lists g ≡ false) × (k ≡ kind.KindMismatch)
IsBadContent b (Link text) k =
    ((t : TemplateErrorKind) × (at : ℕ) × IsRefusedTemplate text t at × (k ≡ kind.Template t))
    ⊎ ((parts : List Part) × IsTemplate text parts × (parts_fit b.whole.lists parts ≡ false) × (k ≡ kind.KindMismatch))

abbrev IsBad : RulesSoFar → Statement → RuleErrorKind → Type 0
IsBad b s k = ((is_in_order b s ≡ false) × (k ≡ kind.BadLine)) ⊎ ((is_in_order b s ≡ true) × IsBadContent b s k)

abbrev pub IsBadText : RulesSoFar → Text → RuleErrorKind → Type 0
IsBadText b line k =
    (((s : Statement) → IsStatement s → line ≡ line_of s → ⊥) × (k ≡ kind.BadLine)) ⊎ ((s : Statement) × IsStatement s × (line ≡ line_of s) × IsBad b s k)

pub bad_text : (b : RulesSoFar) (line : Text) (k : RuleErrorKind) → IsLineFault b line k → IsBadText b line k
bad_text b line k (no_statement b' l h) = inl (h, refl)
bad_text b line k (out_of_order b' s a o) = inr (s, a, refl, inl (o, refl))
bad_text b line k (bad_template b' text t at o r) = inr (Link text, tt, refl, inr (o, inl (t, at, r, refl)))
bad_text b line k (mismatched_guard b' g o a m) = inr (When g, a, refl, inr (o, (m, refl)))
bad_text b line k (mismatched_link b' text parts o t m) = inr (Link text, tt, refl, inr (o, inr (parts, t, m, refl)))

content_same : OneTree → NoFault → OneFault → (b : RulesSoFar) (s : Statement) (k other : RuleErrorKind) → IsBadContent b s k → IsBadContent b s other
    → k ≡ other
content_same tree none fault b (Declare name) k other p q = absurd p
content_same tree none fault b Begin k other p q = absurd p
content_same tree none fault b (When g) k other p q = p.1 ∙ sym q.1
content_same tree none fault b (Link text) k other (inl p) (inl q) =
    p.3 ∙ ap (λ t. kind.Template t) (fault text p.0 q.0 p.1 q.1 p.2 q.2).0 ∙ sym q.3
content_same tree none fault b (Link text) k other (inl p) (inr q) = absurd (none text q.0 p.0 p.1 q.1 p.2)
content_same tree none fault b (Link text) k other (inr p) (inl q) = absurd (none text p.0 q.0 q.1 p.1 q.2)
content_same tree none fault b (Link text) k other (inr p) (inr q) = p.3 ∙ sym q.3

bad_same : OneTree → NoFault → OneFault → (b : RulesSoFar) (s : Statement) (k other : RuleErrorKind) → IsBad b s k → IsBad b s other → k ≡ other
bad_same tree none fault b s k other h h2 = grind (arith, content_same)

pub bad_text_same : OneTree → NoFault → OneFault → (b : RulesSoFar) (line : Text) (k other : RuleErrorKind) → IsBadText b line k → IsBadText b line other
    → k ≡ other
bad_text_same tree none fault b line k other (inl p) (inl q) = p.1 ∙ sym q.1
bad_text_same tree none fault b line k other (inl p) (inr q) = absurd (p.0 q.0 q.1 q.2)
bad_text_same tree none fault b line k other (inr p) (inl q) = absurd (q.0 p.0 p.1 p.2)
bad_text_same tree none fault b line k other (inr p) (inr q) =
    bad_same tree none fault b p.0 k other p.3 (subst (λ s. IsBad b s other) (statement_same q.0 p.0 q.1 p.1 (sym q.2 ∙ p.2)) q.3)

bad_is_no_next : OneTree → NoFault → (b : RulesSoFar) (s : Statement) (k : RuleErrorKind) (c : RulesSoFar) → IsBad b s k → Follows b s c → ⊥
bad_is_no_next tree none b s k c (inl p) f = both_ways (is_in_order b s) p.0 (follows_in_order b s c f)
bad_is_no_next tree none b (Declare name) k c (inr p) f = p.1
bad_is_no_next tree none b Begin k c (inr p) f = p.1
bad_is_no_next tree none b (When g) k c (inr p) f = both_ways (guard_fits b.whole.lists g) p.1.0 f.2.kinds
bad_is_no_next tree none b (Link text) k c (inr p) f = no_link_follows p.1
  where
    no_link_follows : IsBadContent b (Link text) k → ⊥
    no_link_follows (inl q) = none text f.parts q.0 q.1 f.template q.2
    no_link_follows (inr q) = both_ways (parts_fit b.whole.lists q.0) q.2 (ap (parts_fit b.whole.lists) (tree text q.0 f.parts q.1 f.template) ∙ f.kinds)

-- a faulty line is not that of a statement that can follow
pub faulty_is_no_next : OneTree → NoFault → (b : RulesSoFar) (line : Text) (k : RuleErrorKind) (s : Statement) (c : RulesSoFar) → IsLineFault b line k
    → IsStatement s
    → line ≡ line_of s → Follows b s c → ⊥
faulty_is_no_next tree none b line k s c fault a e f = grind (arith, bad_text, bad_is_no_next, statement_same)

-- a line `rule` is never faulty itself
pub begin_is_not_faulty : (b : RulesSoFar) (line : Text) (k : RuleErrorKind) → IsLineFault b line k → line ≡ line_of Begin → ⊥
begin_is_not_faulty b line k fault e = refuted (bad_text b line k fault)
  where
    no_bad_begin : IsBad b Begin k → ⊥
    no_bad_begin h = grind (arith, common_steps)

    refuted : IsBadText b line k → ⊥
    refuted (inl p) = p.0 Begin tt e
    refuted (inr p) = no_bad_begin (subst (λ x. IsBad b x k) (statement_same p.0 Begin p.1 tt (sym p.2 ∙ e)) p.3)
