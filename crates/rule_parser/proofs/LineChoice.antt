-- Bytes are the text of rules or have a first error: each line continues those before it, or it is the first that cannot.
use Rattle.std.proofs.Common.{◌≡◌, ℕ, ◌<◌, ◌≤◌, List, [], ◌∷◌, ◌++◌, ◌+◌, ◌-◌, take, get_or, if◌then◌else◌, Bool, true, false, ◌==◌, Option, Some, None, ◌⊎◌}
use Rattle.std.proofs.lemmas.Grind.{common_steps}
use Rattle.std.proofs.Common.{inl, inr, is_some, map, length, refl, ap, subst, sym, ◌∙◌, codes, arith}
use Rattle.std.specs.List.{AllByRecursion, join_with_byte, slice_index, slice_split}
use Rattle.std.specs.Str.{IsUtf8, is_utf8}
use Rattle.std.specs.Str.Lines.{lines, lines_of_parts, strip_carriage_return}
use Rattle.std.proofs.lemmas.Bool.{both_ways, cases_Bool, cases_lt, eqb-true}
use Rattle.std.proofs.lemmas.List.{append-nil, length-append}
use Rattle.std.proofs.lemmas.Str.{IsUtf8-from_is_utf8, is_utf8-from_IsUtf8, IsUtf8-take, IsUtf8-drop, IsCharBoundary-before_ascii, IsCharBoundary-after_ascii}
use Rattle.std.proofs.lemmas.List.Splits.{join_with_byte-slice_split}
use Rattle.std.proofs.Math.Seq.{take-append_seam, drop-append-add, get_or-append_seam}
use Rattle.text_model.specs.Texts.{Text}
use Rattle.uri_grammar.specs.declared.parts.Part.{Part}
use Rattle.uri_grammar.specs.declared.error.TemplateErrorKind.{TemplateErrorKind}
use Rattle.uri_grammar.specs.Texts.{IsTemplate, IsRefusedTemplate}
use Rattle.rule_parser.specs.declared.error.RuleErrorKind.{RuleErrorKind}
use Rattle.rule_parser.specs.declared.error.RuleErrorKind.TheVariants as kind
use Rattle.rule_parser.specs.declared.rule.Guard.{Guard}
use Rattle.rule_parser.specs.declared.rule.Rule.{Rule}
use Rattle.uri_grammar.specs.Names.{IsName}
use Rattle.rule_parser.specs.Rules.{RuleSet, IsGuard, IsSound, guard_fits, parts_fit}
use Rattle.rule_parser.specs.Statements.{Statement, Declare, Begin, When, Link, IsStatement, line_of, statements}
use Rattle.rule_parser.specs.declared.rules.TheConstants.{MAX_BYTES}
use Rattle.rule_parser.specs.Grammar.{significant, IsRuleText}
use Rattle.rule_parser.specs.Faults.{RulesSoFar, AreSoundSoFar, statements_so_far, takes_lists, IsLineFault, no_statement, out_of_order, bad_template}
use Rattle.rule_parser.specs.Faults.{mismatched_guard, mismatched_link, IsFirstRuleError, IsRefused}
use Rattle.rule_parser.specs.Private.Progress.{Continues, no_rules}
use Rattle.rule_parser.specs.Private.Reading.{ReadsGuard}
use Rattle.rule_parser.proofs.LineNumbers.{line_number, line_fault, open_rule, first_fault}
use Rattle.rule_parser.proofs.ReaderLemmas.{stage, begins, declares, guards_more, links, no_list, no_when, no_other}
use Rattle.rule_parser.proofs.NameChoice.{name_choice}
use Rattle.rule_parser.proofs.GuardChoice.{text_choice, front_choice}
use Rattle.rule_parser.proofs.WholeGuards.{guard_choice}
use Rattle.rule_parser.proofs.LineLemmas.{no_rules_are_sound}

-- a template's text has a tree or an error
abbrev pub TreeOrFault : Type 0
TreeOrFault = (text : Text) → IsUtf8 text → ((parts : List Part) × IsTemplate text parts) ⊎ ((k : TemplateErrorKind) × (at : ℕ) × IsRefusedTemplate text k at)

-- ---- texts of UTF-8

-- a byte of ASCII splits a text of UTF-8 into two texts of UTF-8
ascii_parts : (front rest : Text) (b : ℕ) → b < 128 → IsUtf8 (front ++ b ∷ rest) → IsUtf8 front × IsUtf8 rest
ascii_parts front rest b small u =
    let is : get_or (front ++ b ∷ rest) (length front) 0 ≡ b = get_or-append_seam front b rest 0 in
    let ascii : get_or (front ++ b ∷ rest) (length front) 0 < 128 = omega (arith, is, small) in
    let inside : length front < length (front ++ b ∷ rest) = omega (arith, length-append front (b ∷ rest)) in (
      subst IsUtf8 (take-append_seam front (b ∷ rest)) (IsUtf8-take _ (length front) u (IsCharBoundary-before_ascii _ (length front) inside ascii)),
      subst IsUtf8 (drop-append-add front (b ∷ rest) 1) (IsUtf8-drop _ (length front + 1) u (IsCharBoundary-after_ascii _ (length front) u inside ascii)),
    )

joined_utf8 : (parts : List Text) → IsUtf8 (join_with_byte 10 parts) → AllByRecursion IsUtf8 parts
joined_utf8 [] u = tt
joined_utf8 (x ∷ []) u = (u, tt)
joined_utf8 (x ∷ y ∷ more) u = let p = ascii_parts x (join_with_byte 10 (y ∷ more)) 10 (omega arith) u in (p.0, joined_utf8 (y ∷ more) p.1)

stripped_utf8 : (line : Text) → IsUtf8 line → IsUtf8 (strip_carriage_return line)
stripped_utf8 [] u = grind (arith, common_steps)
stripped_utf8 (x ∷ line) u = by_case (slice_index (x ∷ line) (length (x ∷ line) - 1) == 13) refl
  where
    by_case : (b : Bool) → (slice_index (x ∷ line) (length (x ∷ line) - 1) == 13) ≡ b → IsUtf8 (if b then take (length (x ∷ line) - 1) (x ∷ line) else x ∷ line)
    by_case true e =
        let is : get_or (x ∷ line) (length (x ∷ line) - 1) 0 ≡ 13 = eqb-true _ 13 e in
        IsUtf8-take (x ∷ line) (length (x ∷ line) - 1) u (IsCharBoundary-before_ascii (x ∷ line) (length (x ∷ line) - 1) (omega arith) (omega (arith, is)))
    by_case false e = u

parts_utf8 : (parts : List Text) → AllByRecursion IsUtf8 parts → AllByRecursion IsUtf8 (lines_of_parts parts)
parts_utf8 [] u = tt
parts_utf8 (x ∷ []) u = grind (arith, common_steps)
parts_utf8 (x ∷ y ∷ more) u = (stripped_utf8 x u.0, parts_utf8 (y ∷ more) u.1)

lines_utf8 : (bytes : Text) → IsUtf8 bytes → AllByRecursion IsUtf8 (lines bytes)
lines_utf8 bytes u = parts_utf8 _ (joined_utf8 (slice_split (λ b. b == 10) bytes) (subst IsUtf8 (sym (join_with_byte-slice_split 10 bytes)) u))

significant_utf8 : (ls : List Text) → AllByRecursion IsUtf8 ls → AllByRecursion IsUtf8 (significant ls)
significant_utf8 [] u = tt
significant_utf8 (line ∷ ls) u = grind (arith, common_steps, significant_utf8 ls u.1)

-- ---- statements

abbrev IsSpelled : Text → Type 0
IsSpelled line = (s : Statement) × IsStatement s × (line ≡ line_of s)

abbrev IsNotSpelled : Text → Type 0
IsNotSpelled line = (s : Statement) → IsStatement s → line ≡ line_of s → ⊥

when_choice : (line tokens : Text) → line ≡ codes "when " ++ tokens → (read : Option Guard) × ReadsGuard tokens read → IsSpelled line ⊎ IsNotSpelled line
when_choice line tokens e (Some g, r) = inl (When g, r.0, e ∙ ap (λ w. codes "when " ++ w) r.1)
when_choice line tokens e (None, n) = inr (λ s k f. no_when tokens n s k (sym e ∙ f))

statement_choice : (line : Text) → IsSpelled line ⊎ IsNotSpelled line
statement_choice line =
    elim (text_choice line (codes "rule")) [
      | inl e ↦ inl (Begin, tt, e)
      | inr no_rule ↦ elim (front_choice (codes "list ") line) [
        | inl l ↦ elim (name_choice l.0) [
          | inl n ↦ inl (Declare l.0, n, l.1)
          | inr n ↦ inr (λ s k f. no_list l.0 n s k (sym l.1 ∙ f))
        ]
        | inr list ↦ elim (front_choice (codes "when ") line) [
          | inl w ↦ when_choice line w.0 w.1 (guard_choice w.0)
          | inr when ↦ elim (front_choice (codes "link ") line) [
            | inl t ↦ inl (Link t.0, tt, t.1)
            | inr link ↦ inr (no_other line no_rule list when link)
          ]
        ]
      ]
    ]

-- ---- one more line

-- the line continues the rules so far, or is faulty, or begins a rule in another one
abbrev Proceeds : RulesSoFar → Text → Type 0
Proceeds b line = ((new : RulesSoFar) × Continues b new line) ⊎ ((k : RuleErrorKind) × IsLineFault b line k)
    ⊎ ((line ≡ line_of Begin) × (is_some b.guards ≡ true))

faulty : (b : RulesSoFar) (line : Text) (k : RuleErrorKind) → IsLineFault b line k → Proceeds b line
faulty b line k f = inr (inl (k, f))

proceeds : (b new : RulesSoFar) (line : Text) → Continues b new line → Proceeds b line
proceeds b new line g = inl (new, g)

declared_choice : (lists : List Text) (rules : List Rule) (o : Option (List Guard)) (name : Text) → IsName name → AreSoundSoFar (stage lists rules o)
    → (takes_lists (stage lists rules o) ≡ true) ⊎ (takes_lists (stage lists rules o) ≡ false) → Proceeds (stage lists rules o) (line_of (Declare name))
declared_choice lists rules o name n s (inr f) = faulty (stage lists rules o) _ _ (out_of_order (stage lists rules o) (Declare name) n f)
declared_choice lists rules None name n s (inl t) = proceeds (stage lists rules None) _ _ (declares lists rules None [] name t n s)
declared_choice lists rules (Some gs) name n s (inl t) = absurd (cc)

begin_choice : (lists : List Text) (rules : List Rule) (o : Option (List Guard)) → AreSoundSoFar (stage lists rules o)
    → Proceeds (stage lists rules o) (line_of Begin)
begin_choice lists rules None s = proceeds (stage lists rules None) _ _ (begins lists rules None [] refl s)
begin_choice lists rules (Some gs) s = inr (inr (refl, refl))

guarded_choice : (lists : List Text) (rules : List Rule) (o : Option (List Guard)) (g : Guard) → IsGuard g → AreSoundSoFar (stage lists rules o)
    → (guard_fits lists g ≡ true) ⊎ (guard_fits lists g ≡ false) → Proceeds (stage lists rules o) (line_of (When g))
guarded_choice lists rules None g h s f = faulty (stage lists rules None) _ _ (out_of_order (stage lists rules None) (When g) h refl)
guarded_choice lists rules (Some gs) g h s (inl t) =
    proceeds (stage lists rules (Some gs)) _ _ (guards_more lists rules (Some 0) gs g refl (record { tokens = h; kinds = t }) s)
guarded_choice lists rules (Some gs) g h s (inr f) = faulty (stage lists rules (Some gs)) _ _ (mismatched_guard (stage lists rules (Some gs)) g refl h f)

tree_choice : (lists : List Text) (rules : List Rule) (gs : List Guard) (text : Text) (parts : List Part) → IsTemplate text parts
    → AreSoundSoFar (stage lists rules (Some gs)) → (parts_fit lists parts ≡ true) ⊎ (parts_fit lists parts ≡ false)
    → Proceeds (stage lists rules (Some gs)) (line_of (Link text))
tree_choice lists rules gs text parts t s (inl f) =
    proceeds (stage lists rules (Some gs)) _ _
    (links lists rules (Some 0) (record { guards = gs; template = record { text = text; parts = parts } }) refl t f s)
tree_choice lists rules gs text parts t s (inr f) =
    faulty (stage lists rules (Some gs)) _ _ (mismatched_link (stage lists rules (Some gs)) text parts refl t f)

link_choice : TreeOrFault → (lists : List Text) (rules : List Rule) (o : Option (List Guard)) (text : Text) → IsUtf8 text → AreSoundSoFar (stage lists rules o)
    → Proceeds (stage lists rules o) (line_of (Link text))
link_choice tree lists rules None text u s = faulty (stage lists rules None) _ _ (out_of_order (stage lists rules None) (Link text) tt refl)
link_choice tree lists rules (Some gs) text u s =
    elim (tree text u) [
      | inl t ↦ tree_choice lists rules gs text t.0 t.1 s (cases_Bool (parts_fit lists t.0))
      | inr f ↦ faulty (stage lists rules (Some gs)) _ _ (bad_template (stage lists rules (Some gs)) text f.0 f.1 refl f.2)
    ]

statement_continues : TreeOrFault → (b : RulesSoFar) (s : Statement) → IsStatement s → IsUtf8 (line_of s) → AreSoundSoFar b → Proceeds b (line_of s)
statement_continues tree b (Declare name) k u s = declared_choice b.whole.lists b.whole.rules b.guards name k s (cases_Bool (takes_lists b))
statement_continues tree b Begin k u s = begin_choice b.whole.lists b.whole.rules b.guards s
statement_continues tree b (When g) k u s = guarded_choice b.whole.lists b.whole.rules b.guards g k s (cases_Bool (guard_fits b.whole.lists g))
statement_continues tree b (Link text) k u s =
    link_choice tree b.whole.lists b.whole.rules b.guards text (ascii_parts (codes "link") text 32 (omega arith) u).1 s

line_choice : TreeOrFault → (b : RulesSoFar) (line : Text) → IsUtf8 line → AreSoundSoFar b → Proceeds b line
line_choice tree b line u s =
    elim (statement_choice line) [
      | inr n ↦ faulty b line kind.BadLine (no_statement b line n)
      | inl p ↦ subst (Proceeds b) (sym p.2) (statement_continues tree b p.0 p.1 (subst IsUtf8 p.2 u) s)
    ]

-- ---- all lines

abbrev HasRulesOrFault : List Text → Type 0
HasRulesOrFault ls =
    ((rules : RuleSet) × IsSound rules × (significant ls ≡ map line_of (statements rules))) ⊎ ((k : RuleErrorKind) × (at : ℕ) × IsFirstRuleError ls k at)

at_end : (ls : List Text) (whole : RuleSet) (o : Option (List Guard)) → AreSoundSoFar (record { whole = whole; guards = o })
    → significant ls ≡ map line_of (statements_so_far (record { whole = whole; guards = o })) ++ [] → HasRulesOrFault ls
at_end ls whole None s e = inl (whole, s.whole, e ∙ append-nil _ ∙ ap (map line_of) (append-nil (statements whole)))
at_end ls whole (Some gs) s e = inr (kind.NoLink, line_number ls (length (statements whole)), first_fault ls _ _ (open_rule ls whole gs [] s e tt))

rule_in_rule : (ls : List Text) (whole : RuleSet) (o : Option (List Guard)) (line : Text) (rest : List Text) → is_some o ≡ true → line ≡ line_of Begin
    → AreSoundSoFar (record { whole = whole; guards = o }) → significant ls ≡ map line_of (statements_so_far (record { whole = whole; guards = o }))
    ++ line ∷ rest
    → HasRulesOrFault ls
rule_in_rule ls whole None line rest o b s e = absurd (cc)
rule_in_rule ls whole (Some gs) line rest o b s e =
    inr (kind.NoLink, line_number ls (length (statements whole)), first_fault ls _ _ (open_rule ls whole gs (line ∷ rest) s e b))

one_more : (ls : List Text) (b new : RulesSoFar) (line : Text) (rest : List Text) → Continues b new line → significant ls ≡ map line_of (statements_so_far b)
    ++ line ∷ rest
    → significant ls ≡ map line_of (statements_so_far new) ++ rest
one_more ls b new line rest g e = grind (arith, common_steps)

lines_choice : TreeOrFault → (ls rest : List Text) (b : RulesSoFar) → AllByRecursion IsUtf8 rest → AreSoundSoFar b
    → significant ls ≡ map line_of (statements_so_far b) ++ rest → HasRulesOrFault ls
lines_choice tree ls [] b u s e = at_end ls b.whole b.guards s e
lines_choice tree ls (line ∷ rest) b u s e = by_case (line_choice tree b line u.0 s) (λ new. lines_choice tree ls rest new u.1)
  where
    by_case : Proceeds b line → ((new : RulesSoFar) → AreSoundSoFar new → significant ls ≡ map line_of (statements_so_far new) ++ rest → HasRulesOrFault ls)
        → HasRulesOrFault ls
    by_case (inl g) next = next g.0 g.1.sound (one_more ls b g.0 line rest g.1 e)
    by_case (inr (inl f)) next = inr (f.0, line_number ls (length (statements_so_far b)), first_fault ls _ _ (line_fault ls b line rest f.0 s e f.1))
    by_case (inr (inr r)) next = rule_in_rule ls b.whole b.guards line rest r.1 r.0 s e

-- ---- bytes

pub bytes_choice : TreeOrFault → (bytes : Text) → ((rules : RuleSet) × IsRuleText bytes rules) ⊎ ((k : RuleErrorKind) × (line : ℕ) × IsRefused bytes k line)
bytes_choice tree bytes =
    elim (cases_lt MAX_BYTES (length bytes)) [
      | inl long ↦ inr (kind.TooLong, 0, inl (long, refl, refl))
      | inr short ↦ elim (cases_Bool (is_utf8 bytes)) [
        | inr n ↦ inr (kind.NotUtf8, 0, inr (inl (short, (λ u. both_ways (is_utf8 bytes) n (is_utf8-from_IsUtf8 bytes u)), refl, refl)))
        | inl t ↦ of_lines short (IsUtf8-from_is_utf8 bytes t)
            (lines_choice tree (lines bytes) (significant (lines bytes)) no_rules
            (significant_utf8 (lines bytes) (lines_utf8 bytes (IsUtf8-from_is_utf8 bytes t))) no_rules_are_sound refl)
      ]
    ]
  where
    of_lines : length bytes ≤ MAX_BYTES → IsUtf8 bytes → HasRulesOrFault (lines bytes)
        → ((rules : RuleSet) × IsRuleText bytes rules) ⊎ ((k : RuleErrorKind) × (line : ℕ) × IsRefused bytes k line)
    of_lines short u (inl r) = inl (r.0, record { short = short; utf8 = u; spelled = r.2; sound = r.1 })
    of_lines short u (inr f) = inr (f.0, f.1, inr (inr (short, u, f.2)))
