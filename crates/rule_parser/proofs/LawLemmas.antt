-- The laws of the grammar of rules: the beginning of rules can continue in only one way.
use Rattle.std.proofs.Common.{arith, ◌≡◌, List, [], ◌∷◌, ◌++◌, true, Option, Some, None, map, refl, ap, subst, sym, ◌∙◌}
use Rattle.std.proofs.lemmas.Grind.{common_steps}
use Rattle.std.specs.List.{flat_map, AllByRecursion}
use Rattle.std.proofs.lemmas.List.{append-nil, append_assoc}
use Rattle.std.proofs.lemmas.List.Elements.{recursion_from_All}
use Rattle.text_model.specs.Texts.{Text}
use Rattle.uri_grammar.specs.declared.parts.Part.{Part}
use Rattle.uri_grammar.specs.Names.{IsName}
use Rattle.uri_grammar.specs.Texts.{IsTemplate}
use Rattle.rule_parser.specs.declared.rule.Guard.{Guard}
use Rattle.rule_parser.specs.declared.rule.Rule.{Rule}
use Rattle.rule_parser.specs.Rules.{IsSoundGuard, IsSoundRule, parts_fit}
use Rattle.rule_parser.specs.Statements.{Statement, Declare, Begin, When, Link, statements, statements_of_rule}
use Rattle.rule_parser.specs.Faults.{RulesSoFar, AreSoundSoFar, AreSoundGuards, statements_so_far, statements_of_guards}
use Rattle.rule_parser.specs.Private.Progress.{no_rules}
use Rattle.rule_parser.proofs.ReaderLemmas.{stage}

-- a template's text has one tree
abbrev pub OneTree : Type 0
OneTree = (text : Text) (parts others : List Part) → IsTemplate text parts → IsTemplate text others → parts ≡ others

-- ---- how statements continue

-- a link ends the rule that has begun
pub record EndsOpenRule (b : RulesSoFar) (text : Text) (c : RulesSoFar) : Type 0 where
  pub guards : List Guard
  pub parts : List Part
  pub in_rule : b.guards ≡ Some guards
  pub template : IsTemplate text parts
  pub kinds : parts_fit b.whole.lists parts ≡ true
  pub whole : c ≡ stage b.whole.lists (b.whole.rules ++ record { guards = guards; template = record { text = text; parts = parts } } ∷ []) None

-- the statement continues the rules so far
abbrev pub Follows : RulesSoFar → Statement → RulesSoFar → Type 0
Follows b (Declare name) c = (b.guards ≡ None) × (b.whole.rules ≡ []) × IsName name × (c ≡ stage (b.whole.lists ++ name ∷ []) [] None)
Follows b Begin c = (b.guards ≡ None) × (c ≡ stage b.whole.lists b.whole.rules (Some []))
Follows b (When g) c =
    (guards : List Guard) × (b.guards ≡ Some guards) × IsSoundGuard b.whole.lists g × (c ≡ stage b.whole.lists b.whole.rules (Some (guards ++ g ∷ [])))
Follows b (Link text) c = EndsOpenRule b text c

same_some : {X : Type 0} (o : Option X) (x y : X) → o ≡ Some x → o ≡ Some y → x ≡ y
same_some o x y a b = cc

pub follows_same : OneTree → (b : RulesSoFar) (s : Statement) (c d : RulesSoFar) → Follows b s c → Follows b s d → c ≡ d
follows_same one b (Declare name) c d p q = p.3 ∙ sym q.3
follows_same one b Begin c d p q = p.1 ∙ sym q.1
follows_same one b (When g) c d p q =
    p.3 ∙ ap (λ gs. stage b.whole.lists b.whole.rules (Some (gs ++ g ∷ []))) (same_some b.guards p.0 q.0 p.1 q.1) ∙ sym q.3
follows_same one b (Link text) c d p q =
    p.whole ∙ ap (λ (gs : List Guard). stage b.whole.lists (b.whole.rules ++ record { guards = gs; template = record { text = text; parts = p.parts } } ∷ [])
    None)
    (same_some b.guards p.guards q.guards p.in_rule q.in_rule)
    ∙ ap (λ (ps : List Part). stage b.whole.lists (b.whole.rules ++ record { guards = q.guards; template = record { text = text; parts = ps } } ∷ []) None)
    (one text p.parts q.parts p.template q.template) ∙ sym q.whole

-- statements, one after another
abbrev pub Runs : RulesSoFar → List Statement → RulesSoFar → Type 0
Runs b [] c = b ≡ c
Runs b (s ∷ ss) c = (d : RulesSoFar) × Follows b s d × Runs d ss c

pub runs_same : OneTree → (b : RulesSoFar) (ss : List Statement) (c d : RulesSoFar) → Runs b ss c → Runs b ss d → c ≡ d
runs_same one b [] c d p q = sym p ∙ q
runs_same one b (s ∷ ss) c d p q = runs_same one q.0 ss c d (subst (λ x. Runs x ss c) (follows_same one b s p.0 q.0 p.1 q.1) p.2) q.2

pub runs-append : (b : RulesSoFar) (ss more : List Statement) (c d : RulesSoFar) → Runs b ss c → Runs c more d → Runs b (ss ++ more) d
runs-append b [] more c d p q = subst (λ x. Runs x more d) (sym p) q
runs-append b (s ∷ ss) more c d p q = (p.0, p.1, runs-append p.0 ss more c d p.2 q)

pub runs_split : (b : RulesSoFar) (ss more : List Statement) (d : RulesSoFar) → Runs b (ss ++ more) d → (c : RulesSoFar) × Runs b ss c × Runs c more d
runs_split b [] more d p = (b, refl, p)
runs_split b (s ∷ ss) more d p = let r = runs_split p.0 ss more d p.2 in (r.0, (p.0, p.1, r.1), r.2)

-- ---- the statements of rules

snoc : {X : Type 0} (xs : List X) (x : X) (ys : List X) → (xs ++ x ∷ []) ++ ys ≡ xs ++ x ∷ ys
snoc xs x ys = append_assoc xs (x ∷ []) ys

lists_run : (lists names : List Text) → AllByRecursion IsName names → Runs (stage lists [] None) (map Declare names) (stage (lists ++ names) [] None)
lists_run lists [] h = ap (λ l. stage l [] None) (sym (append-nil lists))
lists_run lists (n ∷ names) h = (
  stage (lists ++ n ∷ []) [] None,
  (refl, refl, h.0, refl),
  subst (λ l. Runs (stage (lists ++ n ∷ []) [] None) (map Declare names) (stage l [] None)) (snoc lists n names) (lists_run (lists ++ n ∷ []) names h.1),
)

guards_run : (lists : List Text) (rules : List Rule) (guards more : List Guard) → AllByRecursion (IsSoundGuard lists) more
    → Runs (stage lists rules (Some guards)) (map When more) (stage lists rules (Some (guards ++ more)))
guards_run lists rules guards [] h = ap (λ l. stage lists rules (Some l)) (sym (append-nil guards))
guards_run lists rules guards (g ∷ more) h = (
  stage lists rules (Some (guards ++ g ∷ [])),
  (guards, refl, h.0, refl),
  subst (λ l. Runs (stage lists rules (Some (guards ++ g ∷ []))) (map When more) (stage lists rules (Some l))) (snoc guards g more)
      (guards_run lists rules (guards ++ g ∷ []) more h.1),
)

rule_runs : (lists : List Text) (rules : List Rule) (rule : Rule) → IsSoundRule lists rule
    → Runs (stage lists rules None) (statements_of_rule rule) (stage lists (rules ++ rule ∷ []) None)
rule_runs lists rules rule h = (
  stage lists rules (Some []),
  (refl, refl),
  runs-append (stage lists rules (Some [])) (map When rule.guards) (Link rule.template.text ∷ []) (stage lists rules (Some rule.guards))
      (stage lists (rules ++ rule ∷ []) None)
      (guards_run lists rules [] rule.guards (recursion_from_All (IsSoundGuard lists) rule.guards h.guards)) (
        stage lists (rules ++ rule ∷ []) None,
        grind (arith, common_steps),
        refl,
      ),
)

rules_run : (lists : List Text) (rules more : List Rule) → AllByRecursion (IsSoundRule lists) more
    → Runs (stage lists rules None) (flat_map statements_of_rule more) (stage lists (rules ++ more) None)
rules_run lists rules [] h = ap (λ l. stage lists l None) (sym (append-nil rules))
rules_run lists rules (rule ∷ more) h =
    runs-append (stage lists rules None) (statements_of_rule rule) (flat_map statements_of_rule more) (stage lists (rules ++ rule ∷ []) None)
    (stage lists (rules ++ rule ∷ more) None) (rule_runs lists rules rule h.0)
    (subst (λ l. Runs (stage lists (rules ++ rule ∷ []) None) (flat_map statements_of_rule more) (stage lists l None)) (snoc rules rule more)
    (rules_run lists (rules ++ rule ∷ []) more h.1))

open_runs : (lists : List Text) (rules : List Rule) (o : Option (List Guard)) → AreSoundGuards lists o
    → Runs (stage lists rules None) (statements_of_guards o) (stage lists rules o)
open_runs lists rules None h = refl
open_runs lists rules (Some guards) h =
    (stage lists rules (Some []), (refl, refl), guards_run lists rules [] guards (recursion_from_All (IsSoundGuard lists) guards h))

pub so_far_runs : (b : RulesSoFar) → AreSoundSoFar b → Runs no_rules (statements_so_far b) b
so_far_runs b s =
    runs-append no_rules (statements b.whole) (statements_of_guards b.guards) (stage b.whole.lists b.whole.rules None) b
    (runs-append no_rules (map Declare b.whole.lists) (flat_map statements_of_rule b.whole.rules) (stage b.whole.lists [] None)
    (stage b.whole.lists b.whole.rules None)
    (lists_run [] b.whole.lists (recursion_from_All IsName b.whole.lists s.whole.names))
    (rules_run b.whole.lists [] b.whole.rules (recursion_from_All (IsSoundRule b.whole.lists) b.whole.rules s.whole.rules)))
    (open_runs b.whole.lists b.whole.rules b.guards s.guards)

-- the rules so far are determined by their statements
pub so_far_same : OneTree → (b c : RulesSoFar) → AreSoundSoFar b → AreSoundSoFar c → statements_so_far b ≡ statements_so_far c → b ≡ c
so_far_same one b c s t e =
    runs_same one no_rules (statements_so_far c) b c (subst (λ ss. Runs no_rules ss b) e (so_far_runs b s)) (so_far_runs c t)

-- a statement after those of the rules so far continues them
pub continues : OneTree → (b c : RulesSoFar) (s : Statement) (more : List Statement) → AreSoundSoFar b → AreSoundSoFar c
    → statements_so_far c ≡ statements_so_far b ++ s ∷ more → (d : RulesSoFar) × Follows b s d
continues one b c s more p q e =
    let split = runs_split no_rules (statements_so_far b) (s ∷ more) c (subst (λ ss. Runs no_rules ss c) e (so_far_runs c q)) in
    let same : split.0 ≡ b = runs_same one no_rules (statements_so_far b) split.0 b split.1 (so_far_runs b p) in
    (split.2.0, subst (λ x. Follows x s split.2.0) same split.2.1)
