-- Menus of targets with names and safe code.
use Rattle.std.proofs.Common.{◌≡◌, ℕ, Bool, true, false, cond, List, [], ◌∷◌, All, Some, map, get_or, refl, nat_lt, if◌then◌else◌}
use Rattle.std.specs.Prelude.{◌↔◌, find}
use Rattle.std.specs.List.{cons_option}
use Rattle.std.specs.Option.{unwrap_or}
use Rattle.std.proofs.lemmas.List.Elements.{All-cons, All-head, All-map, All-nil, All-tail}
use Rattle.text_model.specs.Texts.{Text}
use Rattle.text_model.specs.UriText.{IsUriText}
use Rattle.environment_model.specs.Environment.{Environment}
use Rattle.code_model.specs.Code.{Code}
use Rattle.machine_model.specs.Runs.{HasOutcome, Outcome}
use Rattle.machine_model.specs.Runs as outcome
use Rattle.machine_model.specs.States as state
use Rattle.machine_model.specs.Next.{outcome_of}
use Rattle.machine_model.specs.Safe.{IsSafe}
use Rattle.kev_read.specs.Pairs.{KeyValue}
use Rattle.verified_runs.specs.declared.run.TheConstants.{MAX_LINK_BYTES}
use Rattle.menu.specs.Contained.{IsTargetName}
use Rattle.menu.specs.Links.{NamedLink, is_link, link_under, links}
use Rattle.menu.specs.WebLink.{is_web_link}
use Rattle.menu.specs.declared.entry.Resolution.{Resolution}
use Rattle.menu.specs.declared.entry.Resolution.TheVariants as resolution
use Rattle.registry.specs.Targets.{TargetValue, IsRegistry}
use Rattle.registry.specs.RowEnvironments.{row_environment}
use Rattle.verified_runs.specs.Fates.{FateValue, OverBudget, Link, NoLink, ended, fate_in, most_bytes_in}
use Rattle.registry.specs.Entries.{entry_of, last_resolution, matching_rows_of, menu_of, resolution_by, resolution_of, resolution_of_row}
use Rattle.registry.specs.MenuLinks.{IsMenuLink, IsSoundMenu}

-- the outcome of the machine is the one that is computed
abbrev pub OutcomesAreDecided : Type 0
OutcomesAreDecided = (c : Code) (v : Environment) (o : Outcome) → HasOutcome c v o ↔ (outcome_of c v ≡ o)

-- ---- fates

-- a link is URI text
abbrev IsUriFate : FateValue → Type 0
IsUriFate (OverBudget bytes) = Unit {0}
IsUriFate (Link link) = IsUriText link
IsUriFate NoLink = Unit {0}

uri_fate : OutcomesAreDecided → (code : Code) (env : Environment) → IsSafe code → IsUriFate (fate_in code env)
unfolding fate_in
uri_fate decided code env safe = by_test (nat_lt MAX_LINK_BYTES (most_bytes_in code env))
  where
    by_outcome : (o : Outcome) → outcome_of code env ≡ o → IsUriFate (ended o)
    by_outcome (outcome.Link link) is =
        let reached = (decided code env (outcome.Link link)).1 is in
        safe.uri env reached.0 (state.Ended (state.Link link)) reached.1
    by_outcome outcome.NoLink is = tt
    by_outcome (outcome.Stuck place) is = tt

    by_test : (b : Bool) → IsUriFate (if b then OverBudget (most_bytes_in code env) else ended (outcome_of code env))
    by_test true = tt
    by_test false = by_outcome (outcome_of code env) refl

-- ---- resolutions

-- a link is a web link, and URI text
abbrev IsSoundResolution : Resolution → Type 0
IsSoundResolution (resolution.Link row link) = (is_web_link link ≡ true) × IsUriText link
IsSoundResolution resolution.NoRow = Unit {0}
IsSoundResolution resolution.NoLink = Unit {0}
IsSoundResolution resolution.NotAWebLink = Unit {0}
IsSoundResolution (resolution.OverBudget bytes) = Unit {0}

sound_resolution_by : (row : ℕ) (fate : FateValue) → IsUriFate fate → IsSoundResolution (resolution_by row fate)
sound_resolution_by row (OverBudget bytes) uri = tt
sound_resolution_by row NoLink uri = tt
sound_resolution_by row (Link link) uri = by_test (is_web_link link) refl
  where
    by_test : (b : Bool) → is_web_link link ≡ b → IsSoundResolution (if b then resolution.Link row link else resolution.NotAWebLink)
    by_test true is = (is, uri)
    by_test false is = tt

sound_last : (before : Resolution) (resolutions : List Resolution) → IsSoundResolution before → All IsSoundResolution resolutions
    → IsSoundResolution (last_resolution before resolutions)
sound_last before [] sound all = sound
sound_last before (next ∷ resolutions) sound all =
    sound_last next resolutions (All-head IsSoundResolution next resolutions all) (All-tail IsSoundResolution next resolutions all)

sound_choice : (other : Resolution) (resolutions : List Resolution) → IsSoundResolution other → All IsSoundResolution resolutions
    → IsSoundResolution (unwrap_or (find is_link resolutions) other)
sound_choice other [] sound all = sound
sound_choice other (next ∷ resolutions) sound all =
    by_test (is_link next) (sound_choice other resolutions sound (All-tail IsSoundResolution next resolutions all))
  where
    by_test : (b : Bool) → IsSoundResolution (unwrap_or (find is_link resolutions) other)
        → IsSoundResolution (unwrap_or (cond b (Some next) (find is_link resolutions)) other)
    by_test true rest = All-head IsSoundResolution next resolutions all
    by_test false rest = rest

sound_resolution : OutcomesAreDecided → (target : TargetValue) (pairs : List KeyValue) → IsSafe target.code → IsSoundResolution (resolution_of target pairs)
sound_resolution decided target pairs safe =
    let rows = matching_rows_of target pairs in
    let each : All IsSoundResolution (map (resolution_of_row target pairs) rows) =
    All-map IsSoundResolution (resolution_of_row target pairs) rows (λ k d within. all_rows (get_or rows k d)) in
    sound_choice (last_resolution resolution.NoRow (map (resolution_of_row target pairs) rows)) (map (resolution_of_row target pairs) rows)
    (sound_last resolution.NoRow (map (resolution_of_row target pairs) rows) tt each) each
  where
    all_rows : (row : ℕ) → IsSoundResolution (resolution_of_row target pairs row)
    all_rows row = sound_resolution_by row (fate_in target.code (row_environment target pairs row))
        (uri_fate decided target.code (row_environment target pairs row) safe)

-- ---- menus

one_more_link : (name : Text) (why : Resolution) (others : List NamedLink) → IsTargetName name → IsSoundResolution why → All IsMenuLink others
    → All IsMenuLink (cons_option (link_under name why) others)
one_more_link name (resolution.Link row link) others named sound all =
    All-cons IsMenuLink (record { name = name; link = link }) others (record { name = named; web = sound.0; uri = sound.1 }) all
one_more_link name resolution.NoRow others named sound all = all
one_more_link name resolution.NoLink others named sound all = all
one_more_link name resolution.NotAWebLink others named sound all = all
one_more_link name (resolution.OverBudget bytes) others named sound all = all

sound_links : OutcomesAreDecided → (targets : List TargetValue) (pairs : List KeyValue) → All (λ target. IsTargetName target.name) targets
    → All (λ target. IsSafe target.code) targets
    → All IsMenuLink (links (menu_of targets pairs))
sound_links decided [] pairs named safe = All-nil IsMenuLink
sound_links decided (target ∷ targets) pairs named safe =
    one_more_link target.name (resolution_of target pairs) (links (menu_of targets pairs))
    (All-head (λ t. IsTargetName t.name) target targets named)
    (sound_resolution decided target pairs (All-head (λ t. IsSafe t.code) target targets safe))
    (sound_links decided targets pairs (All-tail (λ t. IsTargetName t.name) target targets named) (All-tail (λ t. IsSafe t.code) target targets safe))

pub sound_menu : OutcomesAreDecided → (targets : List TargetValue) (pairs : List KeyValue) → IsRegistry targets → IsSoundMenu (menu_of targets pairs)
sound_menu decided targets pairs known =
    record {
      names = All-map (λ entry. IsTargetName entry.name) (λ target. entry_of target pairs) targets known.named;
      links = sound_links decided targets pairs known.named known.safe;
    }
