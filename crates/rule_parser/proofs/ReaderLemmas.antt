-- How each statement continues the rules of the lines before it, and which lines cannot.
use Rattle.std.proofs.lemmas.Grind.{common_steps, flat_map-append}
use Rattle.std.proofs.Common.{◌≡◌, ◌≢◌, ℕ, List, [], ◌∷◌, ◌++◌, true, false, Option, Some, None, ◌⊎◌, inl, inr, is_some, length, arith, refl, ap, subst, sym}
use Rattle.std.proofs.Common.{codes}
use Rattle.std.specs.Option.{option_map}
use Rattle.std.proofs.lemmas.List.{append-nil, append_assoc, map-append, append_cancel_left}
use Rattle.std.proofs.lemmas.Bool.{eqb-true}
use Rattle.std.proofs.lemmas.List.Elements.{All-nil, All-push}
use Rattle.text_model.specs.Texts.{Text}
use Rattle.uri_grammar.specs.Names.{IsName}
use Rattle.uri_grammar.specs.Texts.{IsTemplate, IsRefusedTemplate}
use Rattle.uri_grammar.specs.declared.error.TemplateError.{TemplateError}
use Rattle.uri_grammar.specs.declared.error.TemplateErrorKind.{TemplateErrorKind}
use Rattle.uri_grammar.specs.declared.error.TemplateErrorKind.TheVariants as template_kind
use Rattle.uri_grammar.specs.declared.error.TheConstants.{NO_MEMORY as TEMPLATE_NO_MEMORY}
use Rattle.rule_parser.specs.declared.error.TheConstants.{NO_MEMORY}
use Rattle.rule_parser.specs.declared.error.RuleError.{RuleError}
use Rattle.rule_parser.specs.declared.error.RuleErrorKind.{RuleErrorKind}
use Rattle.rule_parser.specs.declared.error.RuleErrorKind.TheVariants as kind
use Rattle.rule_parser.specs.declared.reader.Reader.{Reader}
use Rattle.rule_parser.specs.declared.rule.Guard.{Guard}
use Rattle.rule_parser.specs.declared.rule.Rule.{Rule}
use Rattle.rule_parser.specs.Rules.{IsSoundGuard, IsSoundRule, guard_fits, parts_fit}
use Rattle.rule_parser.specs.Statements.{Statement, Declare, Begin, When, Link, IsStatement, line_of, guard_text}
use Rattle.rule_parser.specs.Faults.{RulesSoFar, AreSoundSoFar, IsLineFault, no_statement, out_of_order, bad_template, mismatched_guard, takes_lists}
use Rattle.rule_parser.specs.Private.Progress.{Continues, IsStepFault, so_far_of}
use Rattle.rule_parser.specs.Private.Reading.{ReadsGuard}
use Rattle.rule_parser.proofs.WholeGuards.{guard_choice}
use Rattle.rule_parser.proofs.TokenLemmas.{same_tails, other_heads}

abbrev pub stage : List Text → List Rule → Option (List Guard) → RulesSoFar
stage lists rules guards = record { whole = record { lists = lists; rules = rules }; guards = guards }

-- the guards of a rule that has begun at a line
abbrev pub guards_from : Option ℕ → List Guard → Option (List Guard)
guards_from line guards = option_map (λ l. guards) line

pub begins : (lists : List Text) (rules : List Rule) (line : Option ℕ) (old : List Guard) → line ≡ None
    → AreSoundSoFar (stage lists rules (guards_from line old))
    → Continues (stage lists rules (guards_from line old)) (stage lists rules (Some [])) (line_of Begin)
begins lists rules None old e s =
    record { statement = Begin; spelled = refl; longer = rw append-nil refl; sound = record { whole = s.whole; guards = All-nil (IsSoundGuard lists) } }
begins lists rules (Some l) old e s = absurd (cc)

pub declares : (lists : List Text) (rules : List Rule) (line : Option ℕ) (guards : List Guard) (name : Text)
    → takes_lists (stage lists rules (guards_from line guards)) ≡ true → IsName name → AreSoundSoFar (stage lists rules (guards_from line guards))
    → Continues (stage lists rules (guards_from line guards)) (stage (lists ++ name ∷ []) rules (guards_from line guards)) (line_of (Declare name))
declares lists [] None guards name e n s = record {
  statement = Declare name;
  spelled = refl;
  longer = simp (append-nil, map-append);
  sound = record { whole = record { names = All-push IsName lists name s.whole.names n; rules = All-nil (IsSoundRule (lists ++ name ∷ [])) }; guards = tt };
}
declares lists (r ∷ rules) None guards name e n s = absurd (omega (arith, eqb-true (length (r ∷ rules)) 0 e))
declares lists rules (Some l) guards name e n s = absurd (cc)

pub guards_more : (lists : List Text) (rules : List Rule) (line : Option ℕ) (guards : List Guard) (g : Guard) → is_some (guards_from line guards) ≡ true
    → IsSoundGuard lists g
    → AreSoundSoFar (stage lists rules (guards_from line guards))
    → Continues (stage lists rules (guards_from line guards)) (stage lists rules (guards_from line (guards ++ g ∷ []))) (line_of (When g))
guards_more lists rules None guards g e h s = absurd (cc)
guards_more lists rules (Some l) guards g e h s = record {
  statement = When g;
  spelled = refl;
  longer = simp (append_assoc, map-append);
  sound = record { whole = s.whole; guards = All-push (IsSoundGuard lists) guards g s.guards h };
}

pub links : (lists : List Text) (rules : List Rule) (line : Option ℕ) (rule : Rule) → is_some (guards_from line rule.guards) ≡ true
    → IsTemplate rule.template.text rule.template.parts
    → parts_fit lists rule.template.parts ≡ true → AreSoundSoFar (stage lists rules (guards_from line rule.guards))
    → Continues (stage lists rules (guards_from line rule.guards)) (stage lists (rules ++ rule ∷ []) None) (line_of (Link rule.template.text))
links lists rules None rule e t k s = absurd (cc)
links lists rules (Some l) rule e t k s = record {
  statement = Link rule.template.text;
  spelled = refl;
  longer = simp (append-nil, append_assoc, flat_map-append);
  sound = record {
    whole = record {
      names = s.whole.names;
      rules = All-push (IsSoundRule lists) rules rule s.whole.rules (record { guards = s.guards; template = t; kinds = k });
    };
    guards = tt;
  };
}

-- ---- lines that are not those of any statement

pub no_list : (name : Text) → (IsName name → ⊥) → (s : Statement) → IsStatement s → codes "list " ++ name ≡ line_of s → ⊥
no_list name h (Declare n) k e = grind (arith, common_steps)
no_list name h Begin k e = other_heads 108 114 _ _ refl e
no_list name h (When g) k e = other_heads 108 119 _ _ refl e
no_list name h (Link t) k e = other_heads 115 110 _ _ refl (same_tails 105 105 _ _ (same_tails 108 108 _ _ e))

pub no_when : (tokens : Text) → ReadsGuard tokens None → (s : Statement) → IsStatement s → codes "when " ++ tokens ≡ line_of s → ⊥
no_when tokens h (Declare n) k e = other_heads 119 108 _ _ refl e
no_when tokens h Begin k e = other_heads 119 114 _ _ refl e
no_when tokens h (When g) k e = h g k (append_cancel_left (codes "when ") tokens (guard_text g) e)
no_when tokens h (Link t) k e = other_heads 119 108 _ _ refl e

pub no_other : (line : Text) → line ≢ codes "rule" → ((t : Text) → line ≢ codes "list " ++ t) → ((t : Text) → line ≢ codes "when " ++ t)
    → ((t : Text) → line ≢ codes "link " ++ t) → (s : Statement) → IsStatement s → line ≡ line_of s → ⊥
no_other line rule list when link (Declare n) k e = list n e
no_other line rule list when link Begin k e = rule e
no_other line rule list when link (When g) k e = when (guard_text g) e
no_other line rule list when link (Link t) k e = link t e

-- ---- errors

pub line_faulty : (r : Reader) (number : ℕ) (line : Text) (e : RuleError) (k : RuleErrorKind) → e ≡ record { kind = k; line = number }
    → IsLineFault (so_far_of r) line k → IsStepFault r number line e
line_faulty r number line e k s h =
    inr (inl (subst (IsLineFault (so_far_of r) line) (sym (ap (λ (x : RuleError). x.kind) s)) h, ap (λ (x : RuleError). x.line) s))

pub list_out_of_order : (started : RulesSoFar) (name : Text) → IsName name → takes_lists started ≡ false
    → IsLineFault started (codes "list " ++ name) kind.BadLine
list_out_of_order started name n o = out_of_order started (Declare name) n o

pub when_out_of_order : (started : RulesSoFar) (tokens : Text) → is_some started.guards ≡ false → IsLineFault started (codes "when " ++ tokens) kind.BadLine
when_out_of_order started tokens o = by_reading (guard_choice tokens)
  where
    by_reading : (read : Option Guard) × ReadsGuard tokens read → IsLineFault started (codes "when " ++ tokens) kind.BadLine
    by_reading (None, n) = no_statement started (codes "when " ++ tokens) (no_when tokens n)
    by_reading (Some g, h) = subst (λ (w : Text). IsLineFault started (codes "when " ++ w) kind.BadLine) (sym h.1) (out_of_order started (When g) h.0 o)

pub guard_mismatched : (started : RulesSoFar) (tokens : Text) (g : Guard) → ReadsGuard tokens (Some g) → is_some started.guards ≡ true
    → guard_fits started.whole.lists g ≡ false
    → IsLineFault started (codes "when " ++ tokens) kind.KindMismatch
guard_mismatched started tokens g h o k =
    subst (λ (w : Text). IsLineFault started (codes "when " ++ w) kind.KindMismatch) (sym h.1) (mismatched_guard started g o h.0 k)

pub link_out_of_order : (started : RulesSoFar) (text : Text) → is_some started.guards ≡ false → IsLineFault started (codes "link " ++ text) kind.BadLine
link_out_of_order started text o = out_of_order started (Link text) tt o

no_memory_or_not : (k : TemplateErrorKind) → (k ≡ template_kind.NoMemory) ⊎ (k ≢ template_kind.NoMemory)
no_memory_or_not k = grind (arith, common_steps)

-- an error of a template, unless memory ran out
pub template_faulty : (r : Reader) (number : ℕ) (text : Text) (t : TemplateError) (e : RuleError) → is_some (so_far_of r).guards ≡ true
    → (t ≡ TEMPLATE_NO_MEMORY) ⊎ IsRefusedTemplate text t.kind t.at
    → (t.kind ≡ template_kind.NoMemory → e ≡ NO_MEMORY) → (t.kind ≢ template_kind.NoMemory → e ≡ record { kind = kind.Template t.kind; line = number })
    → IsStepFault r number (codes "link " ++ text) e
template_faulty r number text t e o (inl m) memory fault = inl (memory (ap (λ (x : TemplateError). x.kind) m))
template_faulty r number text t e o (inr f) memory fault =
    elim (no_memory_or_not t.kind) [
      | inl m ↦ inl (memory m)
      | inr n ↦ line_faulty r number (codes "link " ++ text) e (kind.Template t.kind) (fault n) (bad_template (so_far_of r) text t.kind t.at o f)
    ]
