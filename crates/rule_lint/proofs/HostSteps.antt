-- The host of a template, one part after another.
use Rattle.std.proofs.Common.{◌≡◌, ℕ, ◌+◌, ◌<◌, List, ◌∷◌, ◌++◌, length, drop, get_or, sym, ap, ◌∙◌, append_assoc, add-one, drop-cons}
use Rattle.text_model.specs.Texts.{Text}
use Rattle.uri_grammar.specs.declared.parts.Part.{Part}
use Rattle.kbart_rows.specs.Cells.{Holdings}
use Rattle.rule_parser.specs.Rules.{RuleSet}
use Rattle.rule_lint.specs.declared.host_state.HostState.{HostState}
use Rattle.rule_lint.specs.Host.{after_part, after_parts, open_names, open_names_after}

-- the parts that are left, from one place on
pub rest_at : (parts : List Part) (i : ℕ) (part : Part) → i < length parts → part ≡ get_or parts i part → drop i parts ≡ part ∷ drop (i + 1) parts
rest_at parts i part h e = at_drop parts i h ∙ ap (λ (p : Part). p ∷ drop (i + 1) parts) (sym e)
  where
    at_drop : (parts : List Part) (i : ℕ) → i < length parts → drop i parts ≡ get_or parts i part ∷ drop (i + 1) parts
    at_drop parts i h = rw (add-one, drop-cons parts i part)

-- one more part
pub names_step : (rules : RuleSet) (table : Holdings) (found more all : List Text) (state after : HostState) (part : Part) (left rest : List Part)
    → left ≡ part ∷ rest → more ≡ found ++ open_names rules table state part rest → after ≡ after_part rules table state part rest
    → found ++ open_names_after rules table state left ≡ all → more ++ open_names_after rules table after rest ≡ all
names_step rules table found more all state after part left rest l m a h =
    ap (λ (names : List Text). names ++ open_names_after rules table after rest) m
    ∙ append_assoc found (open_names rules table state part rest) (open_names_after rules table after rest)
    ∙ (ap (λ (s : HostState). found ++ (open_names rules table state part rest ++ open_names_after rules table s rest)) a
    ∙ (sym (ap (λ (ps : List Part). found ++ open_names_after rules table state ps) l) ∙ h))

pub state_step : (rules : RuleSet) (table : Holdings) (state after end : HostState) (part : Part) (left rest : List Part)
    → left ≡ part ∷ rest → after ≡ after_part rules table state part rest → after_parts rules table state left ≡ end
    → after_parts rules table after rest ≡ end
state_step rules table state after end part left rest l a h =
    ap (λ (s : HostState). after_parts rules table s rest) a ∙ (sym (ap (after_parts rules table state) l) ∙ h)
