-- The next rows of searches, and their fates.
use Rattle.std.proofs.Common.{◌≡◌, ℕ, zero, suc, ◌+◌, ◌<◌, List, [], ◌∷◌, ◌++◌, Option, Some, None, refl, sym, ap, ◌∙◌, arith}
use Rattle.std.proofs.Common.{length, map, get_or, set, take, drop}
use Rattle.std.specs.Prelude.{Bool, true, false, if◌then◌else◌, is_some, option_and_then, option_map, slice_get}
use Rattle.std.specs.List.{cons_option, filter_map, zip}
use Rattle.std.proofs.lemmas.Bool.{false≢true}
use Rattle.std.proofs.lemmas.List.{at_drop_more, drop-drop, drop-set-lt, get_or-drop, length-drop, length-map, map_more, take_more, take_more_set}
use Rattle.std.proofs.lemmas.List.Elements.{filter_map-append}
use Rattle.std.proofs.lemmas.Simd.{map-map}
use Rattle.environment_model.specs.Environment.{Environment}
use Rattle.code_model.specs.Code.{Code, Name}
use Rattle.machine_model.specs.Operands.{text_of_name}
use Rattle.row_scope.specs.RowEnvironments.{names_of}
use Rattle.row_scope.specs.RowValue.{RowValue}
use Rattle.target_vars.specs.EnvValue.{EnvValue}
use Rattle.verified_runs.specs.RunValue.{RunValue, new_run}
use Rattle.verified_runs.specs.Fates.{FateValue, fate_in}
use Rattle.registry.specs.RowEnvironments.{row_environment}
use Rattle.registry.specs.Entries.{fate_of_row, resolution_by}
use Rattle.interleaved_runs.specs.declared.fate.Fate as answer
use Rattle.link_menu.specs.declared.batch.Batch.{Batch}
use Rattle.interleaved_runs.specs.Fates.{fate_of, is_over_budget, runs_of, fate_value}
use Rattle.interleaved_runs.specs.StepLists.{end_of, ends_of}
use Rattle.link_menu.specs.RowsByRound.{steps_in, steps_of_row}
use Rattle.link_menu.specs.Private.Searches.{SearchValue, IsBatchOf, IsNumbered, code_next, ends_next, env_next, fate_next, fates_next, is_open}
use Rattle.link_menu.specs.Private.Searches.{after_fate, after_fate_at, after_next_row, after_row, after_row_at}

abbrev entries_of : EnvValue → Environment
entries_of env = env.entries

abbrev fate_at : Code × Environment → FateValue
fate_at p = fate_in p.0 p.1

-- fates depend only on the entries
by_entries : (codes : List Code) (envs : List EnvValue) → map fate_of (zip codes envs) ≡ map fate_at (zip codes (map entries_of envs))
by_entries [] envs = refl
by_entries (code ∷ codes) [] = refl
by_entries (code ∷ codes) (env ∷ envs) = ap (λ fates. fate_in code env.entries ∷ fates) (by_entries codes envs)

-- the codes and the environments of the next rows, if the first search has this next row
abbrev codes_from : SearchValue → Option ℕ → List SearchValue → List Code
codes_from s next searches = cons_option (option_map (λ row. s.target.code) next) (filter_map code_next searches)

abbrev envs_from : SearchValue → Option ℕ → List SearchValue → List Environment
envs_from s next searches = cons_option (option_map (λ row. row_environment s.target s.requested.pairs row) next) (filter_map env_next searches)

side_by_side : (searches : List SearchValue) → map fate_at (zip (filter_map code_next searches) (filter_map env_next searches)) ≡ fates_next searches
side_by_side [] = refl
side_by_side (s ∷ searches) = by_next s.next (side_by_side searches)
  where
    by_next : (next : Option ℕ) → map fate_at (zip (filter_map code_next searches) (filter_map env_next searches)) ≡ fates_next searches
        → map fate_at (zip (codes_from s next searches) (envs_from s next searches))
        ≡ cons_option (option_map (λ row. fate_of_row s.target s.requested.pairs row) next) (fates_next searches)
    by_next None rest = rest
    by_next (Some row) rest = ap (λ fates. fate_of_row s.target s.requested.pairs row ∷ fates) rest

-- the steps of a code in an environment, if it has a run
abbrev steps_at : Code × Environment → Option ℕ
steps_at p = steps_in p.0 p.1

one_end : (over : Bool) (run : RunValue) (runs : List RunValue) (ends : List ℕ) → ends_of runs ≡ ends
    → ends_of (cons_option (if over then None else Some run) runs) ≡ cons_option (if over then None else Some (end_of run)) ends
one_end true run runs ends rest = rest
one_end false run runs ends rest = ap (λ all. end_of run ∷ all) rest

-- the steps of runs depend only on the entries
ends_by_entries : (codes : List Code) (envs : List EnvValue) → ends_of (runs_of (zip codes envs)) ≡ filter_map steps_at (zip codes (map entries_of envs))
ends_by_entries [] envs = refl
ends_by_entries (code ∷ codes) [] = refl
ends_by_entries (code ∷ codes) (env ∷ envs) =
    one_end (is_over_budget code env) (new_run code env) (runs_of (zip codes envs)) (filter_map steps_at (zip codes (map entries_of envs)))
    (ends_by_entries codes envs)

ends_side_by_side : (searches : List SearchValue)
    → filter_map steps_at (zip (filter_map code_next searches) (filter_map env_next searches)) ≡ ends_next searches
ends_side_by_side [] = refl
ends_side_by_side (s ∷ searches) = by_next s.next (ends_side_by_side searches)
  where
    by_next : (next : Option ℕ) → filter_map steps_at (zip (filter_map code_next searches) (filter_map env_next searches)) ≡ ends_next searches
        → filter_map steps_at (zip (codes_from s next searches) (envs_from s next searches))
        ≡ cons_option (option_and_then (steps_of_row s.target s.requested.pairs) next) (ends_next searches)
    by_next None rest = rest
    by_next (Some row) rest = ap (cons_option (steps_of_row s.target s.requested.pairs row)) rest

as_many : (searches : List SearchValue) → length (filter_map code_next searches) ≡ length (filter_map env_next searches)
as_many [] = refl
as_many (s ∷ searches) = by_next s.next (as_many searches)
  where
    by_next : (next : Option ℕ) → length (filter_map code_next searches) ≡ length (filter_map env_next searches)
        → length (codes_from s next searches)
        ≡ length (envs_from s next searches)
    by_next None rest = rest
    by_next (Some row) rest = ap suc rest

-- rows with the names of codes have them at their numbers
at_number : (names : List Name) (i : ℕ) → i < length names → slice_get (map (λ name. name.text) names) i ≡ Some (text_of_name (slice_get names i))
at_number [] i inside = absurd (omega (arith, inside))
at_number (name ∷ names) zero inside = refl
at_number (name ∷ names) (suc i) inside = at_number names i (omega (arith, inside))

all_numbered : (codes : List Code) (rows : List RowValue) → map (λ row. row.names) rows ≡ map names_of codes
    → (k : ℕ) (d : Code × RowValue) → k < length (zip codes rows) → IsNumbered (get_or (zip codes rows) k d)
all_numbered [] rows names k d inside = absurd (omega (arith, inside))
all_numbered (code ∷ codes) [] names k d inside = absurd (omega (arith, inside))
all_numbered (code ∷ codes) (row ∷ rows) names zero d inside =
    λ i within. ap (λ ns. slice_get (get_or ns 0 []) i) names ∙ at_number code.names i within
all_numbered (code ∷ codes) (row ∷ rows) names (suc k) d inside = all_numbered codes rows (ap (drop 1) names) k d (omega (arith, inside))

-- the codes and the rows of all next rows
pub whole_batch : (searches : List SearchValue) (batch : Batch) → map (λ code. code.now) batch.codes.items ≡ filter_map code_next searches
    → map (λ row. row.env.entries) batch.rows.items ≡ filter_map env_next searches
    → map (λ row. row.names) batch.rows.items ≡ map names_of (filter_map code_next searches)
    → IsBatchOf searches batch
whole_batch searches batch codes envs names =
    let entries : map entries_of (map (λ row. row.env) batch.rows.items) ≡ filter_map env_next searches =
    map-map entries_of (λ row. row.env) batch.rows.items ∙ envs in
    record {
      many =
          sym (length-map batch.codes.items (λ code. code.now)) ∙ ap length codes ∙ as_many searches
          ∙ sym (ap length envs) ∙ length-map batch.rows.items (λ row. row.env.entries);
      numbered = all_numbered (map (λ code. code.now) batch.codes.items) batch.rows.items (names ∙ ap (map names_of) (sym codes));
      fates =
          by_entries (map (λ code. code.now) batch.codes.items) (map (λ row. row.env) batch.rows.items)
          ∙ ap (λ es. map fate_at (zip (map (λ code. code.now) batch.codes.items) es)) entries
          ∙ ap (λ cs. map fate_at (zip cs (filter_map env_next searches))) codes
          ∙ side_by_side searches;
      ends =
          ends_by_entries (map (λ code. code.now) batch.codes.items) (map (λ row. row.env) batch.rows.items)
          ∙ ap (λ es. filter_map steps_at (zip (map (λ code. code.now) batch.codes.items) es)) entries
          ∙ ap (λ cs. filter_map steps_at (zip cs (filter_map env_next searches))) codes
          ∙ ends_side_by_side searches;
    }

-- one more search
pub one_more : {X : Type 0} (f : SearchValue → Option X) (searches : List SearchValue) (i : ℕ) (d : SearchValue) → i < length searches
    → filter_map f (take (i + 1) searches) ≡ filter_map f (take i searches) ++ filter_map f (get_or searches i d ∷ [])
one_more f searches i d inside =
    ap (filter_map f) (take_more searches i d inside) ∙ filter_map-append f (take i searches) (get_or searches i d ∷ [])

-- ---- one search after another gets its fate

-- only open searches get fates
next_fates : (searches : List SearchValue) (i : ℕ) (d : SearchValue) → i < length searches
    → fates_next (drop i searches) ≡ cons_option (fate_next (get_or searches i d)) (fates_next (drop (i + 1) searches))
next_fates searches i d inside = at_drop_more (fates_next) searches i d inside

module _ (old searches : List SearchValue) (i : ℕ) (new : SearchValue) where
  abbrev pub Before : Type 0
  Before = take i searches ≡ map after_next_row (take i old)

  abbrev pub Others : Type 0
  Others = drop i searches ≡ drop i old

  same_length : i < length searches → Others → i < length old
  same_length inside others =
      let long = length-drop i searches in
      let same = ap length others in
      let old_long = length-drop i old in
      omega (arith, inside, long, same, old_long)

  same_search : i < length searches → Others → (d : SearchValue) → get_or old i d ≡ get_or searches i d
  same_search inside others d =
      let here = get_or-drop i searches 0 d in
      let there = get_or-drop i old 0 d in
      let at_i : i + 0 ≡ i = omega arith in
      ap (λ k. get_or old k d) (sym at_i) ∙ sym there ∙ ap (λ ss. get_or ss 0 d) (sym others) ∙ here ∙ ap (λ k. get_or searches k d) at_i

  pub before_next : (d : SearchValue) → i < length searches → new ≡ after_next_row (get_or searches i d) → Before → Others
      → take (i + 1) (set searches i new) ≡ map after_next_row (take (i + 1) old)
  before_next d inside is before others =
      take_more_set searches i new inside
      ∙ ap (λ ss. ss ++ new ∷ []) before
      ∙ ap (λ s. map after_next_row (take i old) ++ s ∷ []) (is ∙ ap (after_next_row) (sym (same_search inside others d)))
      ∙ sym (map_more (after_next_row) old i d (same_length inside others))

  pub others_next : i < length searches → Others → drop (i + 1) (set searches i new) ≡ drop (i + 1) old
  others_next inside others =
      drop-set-lt (i + 1) searches i new (omega arith)
      ∙ sym (drop-drop 1 i searches) ∙ ap (drop 1) others ∙ drop-drop 1 i old

  -- the fates that are left, if the search is open and if not
  next_left : (d : SearchValue) → i < length searches → Others
      → fates_next (drop i old) ≡ cons_option (fate_next (get_or searches i d)) (fates_next (drop (i + 1) old))
  next_left d inside others =
      next_fates old i d (same_length inside others)
      ∙ ap (λ s. cons_option (fate_next s) (fates_next (drop (i + 1) old))) (same_search inside others d)

  pub taken : (d : SearchValue) (fates rest : List answer.Fate) (fate : answer.Fate) → i < length searches → Others
      → map fate_value fates ≡ fates_next (drop i old) → fates ≡ fate ∷ rest → is_open (get_or searches i d) ≡ true
      → (map fate_value rest ≡ fates_next (drop (i + 1) old)) × (after_fate (get_or searches i d) (fate_value fate) ≡ after_next_row (get_or searches i d))
  taken d fates rest fate inside others left are opened =
      by_next (get_or searches i d) (get_or searches i d).next opened (sym (ap (map fate_value) are) ∙ left ∙ next_left d inside others)
    where
      by_next : (s : SearchValue) (next : Option ℕ) → is_some next ≡ true
          → (fate_value fate ∷ map fate_value rest) ≡ cons_option (option_map (λ row. fate_of_row s.target s.requested.pairs row) next)
          (fates_next (drop (i + 1) old))
          → (map fate_value rest ≡ fates_next (drop (i + 1) old)) × (after_fate_at s (fate_value fate) next ≡ after_row_at s next)
      by_next s None opened is = absurd (false≢true opened)
      by_next s (Some row) opened is =
          (ap (drop 1) is, ap (λ f. after_row s row (resolution_by row f)) (ap (λ fs. get_or fs 0 (fate_value fate)) is))

  pub passed : (d : SearchValue) → i < length searches → Others → is_open (get_or searches i d) ≡ false
      → (fates_next (drop i old) ≡ fates_next (drop (i + 1) old)) × (get_or searches i d ≡ after_next_row (get_or searches i d))
  passed d inside others closed =
      let is = by_next (get_or searches i d) (get_or searches i d).next closed in
      (next_left d inside others ∙ is.0, is.1)
    where
      by_next : (s : SearchValue) (next : Option ℕ) → is_some next ≡ false
          → (cons_option (option_map (λ row. fate_of_row s.target s.requested.pairs row) next) (fates_next (drop (i + 1) old)) ≡ fates_next (drop (i + 1) old))
          × (s ≡ after_row_at s next)
      by_next s None closed = (refl, refl)
      by_next s (Some row) closed = absurd (false≢true (sym closed))
