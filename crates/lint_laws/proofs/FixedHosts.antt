-- A template that begins with a host as its own text has no finding about hosts.
use Rattle.std.proofs.Common.{◌≡◌, ◌≢◌, inl, inr, ◌==◌, ◌||◌, Bool, true, false, cond, List, [], ◌∷◌, ◌++◌, Option, Some, None}
use Rattle.std.proofs.Common.{refl, ap, ◌∙◌}
use Rattle.std.specs.List.{list_any}
use Rattle.std.proofs.lemmas.Bool.{or_parts}
use Rattle.std.proofs.lemmas.List.Folds.{list_any-append}
use Rattle.text_model.specs.Texts.{Text}
use Rattle.kbart_rows.specs.Cells.{Holdings}
use Rattle.uri_grammar.specs.declared.parts.Part.{Part}
use Rattle.uri_grammar.specs.declared.parts.Part.TheVariants.{Literal, Expression}
use Rattle.rule_parser.specs.Names.{each_once}
use Rattle.rule_parser.specs.Rules.{RuleSet}
use Rattle.rule_lint.specs.declared.place.Place.{Place}
use Rattle.rule_lint.specs.declared.host_state.HostState.TheVariants.{Outside, Opened, Inside, Past, Lost}
use Rattle.rule_lint.specs.HostStates.{after_text, at_sign, ends_host, is_hostless, slash}
use Rattle.rule_lint.specs.Names.{is_known, is_standard_column, resembled}
use Rattle.rule_lint.specs.WebLink.{is_never_web_link}
use Rattle.rule_lint.specs.Host.{after_own, after_part, after_parts, are_rows_own, host_names, may_be_hostless, open_names_after}
use Rattle.rule_lint.specs.Findings.{NeverWebLink, NoColumn, Hostless, found_if, in_host, in_name, in_names, in_open_host, misspelling, names_in_template}
use Rattle.lint_laws.specs.Browsers.{is_at_sign}
use Rattle.lint_laws.specs.RowLinks.{IsPlainHost, IsWebScheme, has_open_host, is_of_host}
use Rattle.lint_laws.proofs.HostStates.{past_stays}

-- ---- the text

inside_ends : (host more : Text) → list_any ends_host host ≡ false → list_any is_at_sign host ≡ false → after_text Inside (host ++ slash ∷ more) ≡ Past
inside_ends [] more no_end no_user = past_stays more
inside_ends (b ∷ host) more no_end no_user =
    let ends = or_parts (ends_host b) (list_any ends_host host) no_end in
    let users = or_parts (is_at_sign b) (list_any is_at_sign host) no_user in
    ap (λ (x : Bool). after_text (cond x Past (cond (b == at_sign) Lost Inside)) (host ++ slash ∷ more)) ends.0
    ∙ ap (λ (x : Bool). after_text (cond x Lost Inside) (host ++ slash ∷ more)) users.0
    ∙ inside_ends host more ends.1 users.1

opened_ends : (host more : Text) → host ≢ [] → list_any ends_host host ≡ false → list_any is_at_sign host ≡ false
    → after_text Opened (host ++ slash ∷ more) ≡ Past
opened_ends [] more some no_end no_user = absurd (some refl)
opened_ends (b ∷ host) more some no_end no_user =
    let ends = or_parts (ends_host b) (list_any ends_host host) no_end in
    let users = or_parts (is_at_sign b) (list_any is_at_sign host) no_user in
    ap (λ (x : Bool). after_text (cond (x || b == at_sign) Lost Inside) (host ++ slash ∷ more)) ends.0
    ∙ ap (λ (x : Bool). after_text (cond x Lost Inside) (host ++ slash ∷ more)) users.0
    ∙ inside_ends host more ends.1 users.1

scheme_opens : (scheme text : Text) → IsWebScheme scheme → after_text Outside (scheme ++ text) ≡ after_text Opened text
scheme_opens scheme text (inl http) = ap (λ (s : Text). after_text Outside (s ++ text)) http
scheme_opens scheme text (inr https) = ap (λ (s : Text). after_text Outside (s ++ text)) https

text_ends : (scheme host more : Text) → IsWebScheme scheme → IsPlainHost host → list_any ends_host host ≡ false
    → after_text Outside (scheme ++ (host ++ slash ∷ more)) ≡ Past
text_ends scheme host more is plain no_end =
    scheme_opens scheme (host ++ slash ∷ more) is ∙ opened_ends host more plain.some no_end plain.no_user

-- ---- findings that are not about hosts

module _ (rules : RuleSet) (table : Holdings) (at : Place) where
  none_in_name : (name : Text) → list_any is_of_host (in_name rules table at name) ≡ false
  none_in_name name = by_case (is_known rules table name) (is_standard_column name) (resembled rules table name)
    where
      by_case : (known standard : Bool) (other : Option Text)
          → list_any is_of_host (cond known [] (cond standard (NoColumn at name) (misspelling at name other) ∷ [])) ≡ false
      by_case true standard other = refl
      by_case false true other = refl
      by_case false false None = refl
      by_case false false (Some other) = refl

  none_in_names : (names : List Text) → list_any is_of_host (in_names rules table at names) ≡ false
  none_in_names [] = refl
  none_in_names (name ∷ names) =
      list_any-append is_of_host (in_name rules table at name) (in_names rules table at names)
      ∙ ap (λ (b : Bool). b || list_any is_of_host (in_names rules table at names)) (none_in_name name)
      ∙ none_in_names names

  -- ---- after the host

  past_part : (part : Part) (parts : List Part) → after_part rules table Past part parts ≡ Past
  past_part (Literal text) parts = past_stays text
  past_part (Expression op specs) parts = by_case (are_rows_own rules table specs)
    where
      by_case : (own : Bool) → cond own (after_own table Past op specs) Past ≡ Past
      by_case true = refl
      by_case false = refl

  past_parts : (parts : List Part) → after_parts rules table Past parts ≡ Past
  past_parts [] = refl
  past_parts (part ∷ parts) = ap (λ s. after_parts rules table s parts) (past_part part parts) ∙ past_parts parts

  past_names : (parts : List Part) → open_names_after rules table Past parts ≡ []
  past_names [] = refl
  past_names (Literal text ∷ parts) = ap (λ s. open_names_after rules table s parts) (past_stays text) ∙ past_names parts
  past_names (Expression op specs ∷ parts) =
      ap (λ s. open_names_after rules table s parts) (past_part (Expression op specs) parts) ∙ past_names parts

  -- ---- the template

  none_after : (text : Text) (parts : List Part) → after_text Outside text ≡ Past → has_open_host rules table at (Literal text ∷ parts) ≡ false
  none_after text parts ended =
      list_any-append is_of_host (in_names rules table at (names_in_template all)) (in_host rules table at all)
      ∙ ap (λ (b : Bool). b || list_any is_of_host (in_host rules table at all)) (none_in_names (names_in_template all))
      ∙ by_case (is_never_web_link all)
    where
      all : List Part
      all = Literal text ∷ parts

      names : host_names rules table all ≡ []
      names = ap each_once (ap (λ s. open_names_after rules table s parts) ended ∙ past_names parts)

      hostless : may_be_hostless rules table all ≡ false
      hostless = ap is_hostless (ap (λ s. after_parts rules table s parts) ended ∙ past_parts parts)

      by_case : (never : Bool)
          → list_any is_of_host (cond never (NeverWebLink at ∷ []) (in_open_host at (host_names rules table all) (may_be_hostless rules table all))) ≡ false
      by_case true = refl
      by_case false =
          ap (λ (ns : List Text). list_any is_of_host (in_open_host at ns (may_be_hostless rules table all))) names
          ∙ ap (λ (b : Bool). list_any is_of_host (found_if b (Hostless at))) hostless

pub no_finding : (rules : RuleSet) (table : Holdings) (at : Place) (scheme host more : Text) (parts : List Part) → IsWebScheme scheme → IsPlainHost host
    → list_any ends_host host ≡ false → has_open_host rules table at (Literal (scheme ++ (host ++ slash ∷ more)) ∷ parts) ≡ false
no_finding rules table at scheme host more parts is plain no_end =
    none_after rules table at (scheme ++ (host ++ slash ∷ more)) parts (text_ends scheme host more is plain no_end)
