-- The parts of a reference in the sources of a request in Dublin Core.
use Rattle.std.proofs.Common.{◌≡◌, List, [], ◌∷◌, Bool, false, cond, Option, Some, None, refl, sym, ap, ◌∙◌}
use Rattle.std.specs.Prelude.{codes, take, slice_get}
use Rattle.std.specs.List.{All, filter_map}
use Rattle.std.specs.Option.{option_and_then}
use Rattle.std.specs.Str.{bytes_eq}
use Rattle.std.proofs.lemmas.List.Elements.{All-cons}
use Rattle.text_model.specs.Texts.{Text}
use Rattle.kev_read.specs.Pairs.{KeyValue, all_of, first_of}
use Rattle.journal_references.specs.References.{Reference}
use Rattle.openurl_reading.specs.Citations.{unless_blank, without_date}
use Rattle.openurl_reading.specs.Dates.{date_keys, first_date}
use Rattle.openurl_reading.specs.DublinCore.{is_core, core_reference, core_part, dated, core_year, year_step, core_parts}
use Rattle.openurl_reading.specs.Sources.{most_sources, in_source}
use Rattle.openurl_reading.specs.Steps.{Step, unchanged, changed, taken, after}
use Rattle.openurl_reading.specs.Values.{led}
use Rattle.openurl_reading.specs.Volumes.{without_own, filling}
use Rattle.openurl_reading.proofs.CoreCopied.{same_core}
use Rattle.openurl_reading.proofs.Each.{one_has}
use Rattle.openurl_reading.proofs.Fillings.{filling-none}
use Rattle.openurl_reading.proofs.Settled.{steps-stay}
use Rattle.openurl_reading.proofs.Values.{all_of-taken}

-- the four steps
abbrev pub of_volume : Step
of_volume = filling (codes "rft.volume") (core_part (λ found. found.volume))

abbrev pub of_issue : Step
of_issue = filling (codes "rft.issue") (core_part (λ found. found.issue))

abbrev pub of_pages : Step
of_pages = filling (codes "rft.pages") (core_part (λ found. found.pages))

pub each_part : (P : Step → Type 0) → P of_volume → P of_issue → P of_pages → P year_step → All P core_parts
each_part P a b c d =
    All-cons P of_volume (of_issue ∷ of_pages ∷ year_step ∷ []) a
    (All-cons P of_issue (of_pages ∷ year_step ∷ []) b (All-cons P of_pages (year_step ∷ []) c (one_has P year_step d)))

-- ---- without a reference, they change nothing

pub year-none : (pairs : List KeyValue) → core_year pairs ≡ None → year_step.change pairs ≡ unchanged
year-none pairs e =
    ap (λ o. led (without_date (first_date date_keys pairs) o) (first_of pairs (codes "rft.date"))) e ∙ no_year (first_date date_keys pairs)
  where
    no_year : (date : Option Text) → led (without_date date None) (first_of pairs (codes "rft.date")) ≡ unchanged
    no_year None = refl
    no_year (Some d) = refl

pub no_part : (part : Reference → Option Text) (pairs : List KeyValue) → core_reference pairs ≡ None → core_part part pairs ≡ None
no_part part pairs none = ap (λ o. option_and_then unless_blank (option_and_then part o)) none

pub unfound_stays : (pairs : List KeyValue) → core_reference pairs ≡ None → All (λ step. step.change pairs ≡ unchanged) core_parts
unfound_stays pairs none =
    each_part (λ step. step.change pairs ≡ unchanged)
    (filling-none (codes "rft.volume") (core_part (λ found. found.volume)) pairs (no_part (λ found. found.volume) pairs none))
    (filling-none (codes "rft.issue") (core_part (λ found. found.issue)) pairs (no_part (λ found. found.issue) pairs none))
    (filling-none (codes "rft.pages") (core_part (λ found. found.pages)) pairs (no_part (λ found. found.pages) pairs none))
    (year-none pairs (ap (option_and_then dated) (no_part (λ found. found.year) pairs none)))

pub unfound_same : (pairs : List KeyValue) → core_reference pairs ≡ None → pairs ≡ after core_parts pairs
unfound_same pairs none = sym (steps-stay core_parts pairs (unfound_stays pairs none))

-- ---- in the order of the code

abbrev first_reference_in : List Text → Option Reference
first_reference_in values = slice_get (filter_map in_source (take most_sources values)) 0

same_reference : (b b' : Bool) (values values' : List Text) → b ≡ b' → values ≡ values'
    → cond b (first_reference_in values) None ≡ cond b' (first_reference_in values') None
same_reference b b' values values' e g = rw (e, g) refl

-- a step of another key leaves the reference
pub reference_kept : (step : Step) (pairs : List KeyValue) → bytes_eq step.key (codes "rft_val_fmt") ≡ false → bytes_eq step.key (codes "rft.creator") ≡ false
    → bytes_eq step.key (codes "rft.source") ≡ false → bytes_eq step.key (codes "rft.identifier") ≡ false
    → core_reference (taken pairs step) ≡ core_reference pairs
reference_kept step pairs format creator source identifier =
    let sources = all_of-taken step pairs (codes "rft.source") source in
    same_reference (is_core (taken pairs step)) (is_core pairs) _ _
    (same_core _ _ _ _ _ _ _ _ (all_of-taken step pairs (codes "rft_val_fmt") format) (all_of-taken step pairs (codes "rft.creator") creator) sources
    (all_of-taken step pairs (codes "rft.identifier") identifier)) sources

still_found : (step : Step) (pairs next : List KeyValue) (found : Reference) → bytes_eq step.key (codes "rft_val_fmt") ≡ false
    → bytes_eq step.key (codes "rft.creator") ≡ false → bytes_eq step.key (codes "rft.source") ≡ false
    → bytes_eq step.key (codes "rft.identifier") ≡ false → core_reference pairs ≡ Some found → next ≡ taken pairs step → core_reference next ≡ Some found
still_found step pairs next found format creator source identifier e h =
    ap core_reference h ∙ reference_kept step pairs format creator source identifier ∙ e

part_next : (key : Text) (part : Reference → Option Text) (pairs next : List KeyValue) (found : Reference) → core_reference pairs ≡ Some found
    → next ≡ changed key (led (without_own (all_of pairs key) (option_and_then unless_blank (part found))) (first_of pairs key)) pairs
    → next ≡ taken pairs (filling key (core_part part))
part_next key part pairs next found e h =
    h ∙ sym (ap (λ c. changed key (led (without_own (all_of pairs key) (option_and_then unless_blank (option_and_then part c))) (first_of pairs key)) pairs) e)

pub parts_in_order : (pairs first second third last : List KeyValue) (found : Reference) → core_reference pairs ≡ Some found
    → first ≡ changed (codes "rft.volume") (led (without_own (all_of pairs (codes "rft.volume")) (option_and_then unless_blank found.volume))
    (first_of pairs (codes "rft.volume"))) pairs
    → second ≡ changed (codes "rft.issue") (led (without_own (all_of first (codes "rft.issue")) (option_and_then unless_blank found.issue))
    (first_of first (codes "rft.issue"))) first
    → third ≡ changed (codes "rft.pages") (led (without_own (all_of second (codes "rft.pages")) (option_and_then unless_blank found.pages))
    (first_of second (codes "rft.pages"))) second
    → last ≡ changed (codes "rft.date")
    (led (without_date (first_date date_keys third) (option_and_then dated (option_and_then unless_blank found.year)))
    (first_of third (codes "rft.date"))) third
    → last ≡ after core_parts pairs
parts_in_order pairs first second third last found e a b c d =
    let one = part_next (codes "rft.volume") (λ r. r.volume) pairs first found e a in
    let e1 = still_found of_volume pairs first found refl refl refl refl e one in
    let two = part_next (codes "rft.issue") (λ r. r.issue) first second found e1 b in
    let e2 = still_found of_issue first second found refl refl refl refl e1 two in
    let three = part_next (codes "rft.pages") (λ r. r.pages) second third found e2 c in
    let e3 = still_found of_pages second third found refl refl refl refl e2 three in
    let four : last ≡ taken third year_step =
    d ∙ sym (ap (λ r. changed (codes "rft.date") (led (without_date (first_date date_keys third)
    (option_and_then dated (option_and_then unless_blank (option_and_then (λ found. found.year) r)))) (first_of third (codes "rft.date"))) third) e3) in
    four ∙ ap (λ p. taken p year_step) (three ∙ ap (λ p. taken p of_pages) (two ∙ ap (λ p. taken p of_issue) one))
