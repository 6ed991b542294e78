-- Requests with the same values under the names of a code have the same entry at its target.
use Rattle.std.proofs.Common.{◌≡◌, ◌≤◌, ℕ, List, [], Option, None, Bool, true, false, get_or, map, refl, sym, ap, ◌∙◌, subst, slice_get}
use Rattle.std.specs.Prelude.{All, ◌↔◌, if◌then◌else◌}
use Rattle.std.proofs.lemmas.List.Elements.{All-weaker}
use Rattle.text_model.specs.Texts.{Text}
use Rattle.text_model.proofs.Lists.{map-same}
use Rattle.environment_model.specs.Environment.{Environment, Meaning, look_up, is_there, text_in, members_in, text_of, members_of}
use Rattle.environment_model.specs.Lists.{is_list}
use Rattle.code_model.specs.Code.{Code, Name}
use Rattle.machine_model.specs.Next.{outcome_of}
use Rattle.machine_model.specs.Runs.{HasOutcome, Outcome}
use Rattle.kev_read.specs.Pairs.{KeyValue, all_of, first_of}
use Rattle.kev_read.specs.Filling.{filled}
use Rattle.kbart_rows.specs.Cells.{NamedCell, named_cells}
use Rattle.kbart_rows.specs.Identifiers.{ids_of, matching_rows}
use Rattle.row_laws.specs.Shadowing.{requested, row_of}
use Rattle.row_scope.specs.RowEnvironments.{cells_of_row, lists_of}
use Rattle.verified_runs.specs.declared.run.TheConstants.{MAX_LINK_BYTES}
use Rattle.verified_runs.specs.Fates.{ended, fate_in, most_bytes_in}
use Rattle.menu.specs.declared.entry.Resolution.{Resolution}
use Rattle.menu.specs.declared.entry.Resolution.TheVariants.{NoRow}
use Rattle.registry.specs.Targets.{TargetValue}
use Rattle.registry.specs.RowEnvironments.{row_environment}
use Rattle.registry.specs.Entries.{chosen, entry_of, matching_rows_of, resolution_by, resolution_of_row}
use Rattle.menu_laws.specs.Keys.{DenoteTheSame, HaveSameValues, IsWithinBudget}

-- the laws of lower crates, and the first of this one
pub record LawsOfRuns : Type 0 where
  pub shadow : (lists : List Text) (cells : List NamedCell) (pairs : List KeyValue) (name : Text)
      → look_up (filled lists (row_of cells) pairs) name
      ≡ (if is_there (row_of cells) name then look_up (row_of cells) name else look_up (requested lists pairs) name)
  pub texts : (lists : List Text) (pairs : List KeyValue) (key : Text)
      → text_of (requested lists pairs) key ≡ (if is_list lists key then None else first_of pairs key)
  pub members : (lists : List Text) (pairs : List KeyValue) (key : Text)
      → members_of (requested lists pairs) key ≡ (if is_list lists key then all_of pairs key else [])
  pub reads : (code : Code) (env other : Environment) (outcome : Outcome) → DenoteTheSame code env other → HasOutcome code env outcome
      → HasOutcome code other outcome
  pub decided : (c : Code) (v : Environment) (o : Outcome) → HasOutcome c v o ↔ (outcome_of c v ≡ o)
  pub ran : (code : Code) (env : Environment) (outcome : Outcome) → most_bytes_in code env ≤ MAX_LINK_BYTES → HasOutcome code env outcome
      → fate_in code env ≡ ended outcome

module _ (laws : LawsOfRuns) where
  -- ---- look-ups

  module _ (lists : List Text) (cells : List NamedCell) (pairs others : List KeyValue) (name : Text) (same : all_of pairs name ≡ all_of others name) where
    -- a result that depends on the request only through the values under the name
    agrees : {X : Type 0} (read : Option Meaning → X) (by_values : List Text → X) → read (look_up (requested lists pairs) name) ≡ by_values (all_of pairs name)
        → read (look_up (requested lists others) name) ≡ by_values (all_of others name)
        → read (look_up (filled lists (row_of cells) pairs) name) ≡ read (look_up (filled lists (row_of cells) others) name)
    agrees read by_values here there =
        ap read (laws.shadow lists cells pairs name) ∙ by_row (is_there (row_of cells) name) ∙ ap read (sym (laws.shadow lists cells others name))
      where
        by_row : (b : Bool) → read (if b then look_up (row_of cells) name else look_up (requested lists pairs) name)
            ≡ read (if b then look_up (row_of cells) name else look_up (requested lists others) name)
        by_row true = refl
        by_row false = here ∙ ap by_values same ∙ sym there

    text_agrees : text_of (filled lists (row_of cells) pairs) name ≡ text_of (filled lists (row_of cells) others) name
    text_agrees =
        agrees text_in (λ (values : List Text). if is_list lists name then None else slice_get values 0) (laws.texts lists pairs name)
        (laws.texts lists others name)

    members_agree : members_of (filled lists (row_of cells) pairs) name ≡ members_of (filled lists (row_of cells) others) name
    members_agree =
        agrees members_in (λ (values : List Text). if is_list lists name then values else []) (laws.members lists pairs name) (laws.members lists others name)

  -- ---- rows

  module _ (target : TargetValue) (pairs others : List KeyValue) (same : HaveSameValues target.code pairs others) where
    denote_the_same : (row : ℕ) → DenoteTheSame target.code (row_environment target pairs row) (row_environment target others row)
    denote_the_same row =
        let lists = lists_of target.code in
        let cells = named_cells target.table.header (cells_of_row target.table row) in
        All-weaker (λ (name : Name). all_of pairs name.text ≡ all_of others name.text)
        (λ (name : Name). (text_of (row_environment target pairs row) name.text ≡ text_of (row_environment target others row) name.text)
        × (members_of (row_environment target pairs row) name.text ≡ members_of (row_environment target others row) name.text))
        (λ name is. (text_agrees lists cells pairs others name.text is, members_agree lists cells pairs others name.text is)) target.code.names same

    same_row : (row : ℕ) → most_bytes_in target.code (row_environment target pairs row) ≤ MAX_LINK_BYTES
        → most_bytes_in target.code (row_environment target others row) ≤ MAX_LINK_BYTES
        → resolution_of_row target pairs row ≡ resolution_of_row target others row
    same_row row here there =
        let env = row_environment target pairs row in
        let other = row_environment target others row in
        let outcome = outcome_of target.code env in
        let has = (laws.decided target.code env outcome).1 refl in
        let also = laws.reads target.code env other outcome (denote_the_same row) has in
        ap (resolution_by row) (laws.ran target.code env outcome here has ∙ sym (laws.ran target.code other outcome there also))

    pub same_entry : ids_of pairs ≡ ids_of others → IsWithinBudget target pairs → IsWithinBudget target others → entry_of target pairs ≡ entry_of target others
    same_entry ids here there =
        let rows = matching_rows_of target pairs in
        let moved : rows ≡ matching_rows_of target others = ap (matching_rows target.table) ids in
        let within : All (λ row. most_bytes_in target.code (row_environment target others row) ≤ MAX_LINK_BYTES) rows =
        subst (λ (rows : List ℕ). All (λ row. most_bytes_in target.code (row_environment target others row) ≤ MAX_LINK_BYTES) rows) (sym moved) there in
        let each : All (λ row. resolution_of_row target pairs row ≡ resolution_of_row target others row) rows =
        λ k d below. same_row (get_or rows k d) (here k d below) (within k d below) in
        let chosen_same = ap (chosen NoRow) (map-same (resolution_of_row target pairs) (resolution_of_row target others) rows each)
        ∙ ap (λ (rows : List ℕ). chosen NoRow (map (resolution_of_row target others) rows)) moved in
        ap (λ (r : Resolution). record { name = target.name; resolution = r }) chosen_same
