-- The host of a link on a row, for a request and for the row alone.
use Rattle.std.proofs.Common.{arith, ◌≡◌, ℕ, ◌<◌, Bool, true, false, cond, List, [], ◌∷◌, length, get_or, All, refl, sym, ◌∙◌, inl, inr}
use Rattle.std.proofs.lemmas.Grind.{common_steps}
use Rattle.std.specs.List.{list_any}
use Rattle.std.proofs.lemmas.Bool.{both_ways, or_parts}
use Rattle.std.proofs.lemmas.List.Folds.{list_any-append}
use Rattle.std.proofs.lemmas.List.Elements.{recursion_from_All}
use Rattle.text_model.specs.Texts.{Text}
use Rattle.text_model.specs.UriText.{IsUriText}
use Rattle.environment_model.specs.Environment.{LookUp}
use Rattle.uri_template.specs.Expansion.{expansion}
use Rattle.kev_read.specs.Pairs.{KeyValue}
use Rattle.kbart_rows.specs.Cells.{Holdings}
use Rattle.uri_grammar.specs.declared.parts.Part.{Part}
use Rattle.uri_grammar.specs.Promises.{IsSoundPart}
use Rattle.uri_grammar.specs.Texts.{IsTemplate}
use Rattle.menu.specs.WebLink.{is_web_link}
use Rattle.rule_parser.specs.Rules.{RuleSet}
use Rattle.rule_parser.specs.Meaning.{seen}
use Rattle.rule_lint.specs.declared.place.Place.{Place}
use Rattle.rule_lint.specs.Host.{host_names, host_of, may_be_hostless}
use Rattle.rule_lint.specs.WebLink.{is_never_web_link}
use Rattle.rule_lint.specs.Findings.{NeverWebLink, in_host, in_names, in_open_host, names_in_template}
use Rattle.lint_laws.specs.RowLinks.{IsHostOfRow, environment_of_cells, has_open_host, host_of_row_alone, is_of_host, link_on_row}
use Rattle.lint_laws.proofs.BrowserHosts.{browser_agrees}
use Rattle.lint_laws.proofs.HostStates.{cell_covered}
use Rattle.lint_laws.proofs.HostPairs.{HaveOneHost}
use Rattle.lint_laws.proofs.HostWalk.{template_hosts}
use Rattle.lint_laws.proofs.HostEnds.{no_slashes}
use Rattle.lint_laws.proofs.RowLooks.{RowLaws, row_looks}
use Rattle.lint_laws.proofs.WebLinkLemmas.{never_a_web_link, web_link_has_slashes}

-- ---- what is found of a link

-- a link that can be a web link, and of which nothing is found, has no open names and a host in each row
record HasNoFinding (rules : RuleSet) (table : Holdings) (parts : List Part) : Type 0 where
  names : host_names rules table parts ≡ []
  host : may_be_hostless rules table parts ≡ false

nothing_found : (rules : RuleSet) (table : Holdings) (at : Place) (parts : List Part) → has_open_host rules table at parts ≡ false
    → (is_never_web_link parts ≡ true → ⊥) → HasNoFinding rules table parts
nothing_found rules table at parts e web =
    let both = or_parts (list_any is_of_host (in_names rules table at (names_in_template parts))) (list_any is_of_host (in_host rules table at parts))
    (sym (list_any-append is_of_host (in_names rules table at (names_in_template parts)) (in_host rules table at parts)) ∙ e) in
    by_web (is_never_web_link parts) refl both.1
  where
    by_web : (never : Bool) → is_never_web_link parts ≡ never
        → list_any is_of_host (cond never (NeverWebLink at ∷ []) (in_open_host at (host_names rules table parts) (may_be_hostless rules table parts))) ≡ false
        → HasNoFinding rules table parts
    by_web never never2 e = grind (arith, common_steps)

-- ---- web links

of_row : (rules : RuleSet) (table : Holdings) (parts : List Part) (row : ℕ) (link alone : Text) → host_of alone ≡ host_of_row_alone rules table parts row
    → IsUriText link → is_web_link link ≡ true → HaveOneHost link alone → IsHostOfRow rules table parts row link
of_row rules table parts row link alone is uri web hosts = elim hosts [
  | inl one ↦ record { same = one.0 ∙ is; plain = one.1; browser = browser_agrees link uri web one.1 }
  | inr none ↦ absurd (web_link_has_slashes link web (no_slashes link none))
]

-- what templates give is URI text
abbrev pub GiveUriText : Type 0
GiveUriText = (look : LookUp) (parts : List Part) → All IsSoundPart parts → IsUriText (expansion look parts)

row_hosts : RowLaws → GiveUriText → (rules : RuleSet) (table : Holdings) (at : Place) (parts : List Part) (row : ℕ) (pairs : List KeyValue)
    → All IsSoundPart parts → row < length table.rows → has_open_host rules table at parts ≡ false
    → is_web_link (link_on_row rules table parts row pairs) ≡ true
    → IsHostOfRow rules table parts row (link_on_row rules table parts row pairs)
row_hosts laws uri rules table at parts row pairs sound within closed web =
    let cells = get_or table.rows row [] in
    let look = seen rules (environment_of_cells rules table cells pairs) in
    let alone = seen rules (environment_of_cells rules table cells []) in
    let found = nothing_found rules table at parts closed
    (λ never. both_ways (is_web_link (link_on_row rules table parts row pairs)) (never_a_web_link look parts never) web) in
    of_row rules table parts row (link_on_row rules table parts row pairs) (link_on_row rules table parts row []) refl (uri look parts sound) web
    (template_hosts rules table row cells look alone (row_looks laws rules table row pairs within)
    (λ f s cell is. cell_covered f s table.rows row cell within is) parts (recursion_from_All IsSoundPart parts sound) found.names found.host)

-- a tree of the grammar is sound
abbrev pub TreesAreSound : Type 0
TreesAreSound = (text : Text) (parts : List Part) → IsTemplate text parts → All IsSoundPart parts

pub template_hosts_on_row : RowLaws → GiveUriText → TreesAreSound → (rules : RuleSet) (table : Holdings) (at : Place) (text : Text) (parts : List Part)
    (row : ℕ) (pairs : List KeyValue) → IsTemplate text parts → has_open_host rules table at parts ≡ false → row < length table.rows
    → is_web_link (link_on_row rules table parts row pairs) ≡ true → IsHostOfRow rules table parts row (link_on_row rules table parts row pairs)
template_hosts_on_row laws uri trees rules table at text parts row pairs is closed within web =
    row_hosts laws uri rules table at parts row pairs (trees text parts is) within closed web
