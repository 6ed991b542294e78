-- What is read in a query of any source, and its links in a registry.
use Rattle.std.specs.Prelude.{◌≡◌, ◌==◌, Bool, true, false, List, [], length, Result, Ok, Err}
use Rattle.text_model.specs.Texts.{Text}
use Rattle.kev_read.specs.declared.error.KevError.{KevError}
use Rattle.kev_read.specs.declared.error.KevError.TheVariants.{NoMemory, TooLong}
use Rattle.registry.specs.Targets.{TargetValue}
use Rattle.registry.specs.Entries.{menu_of}
use Rattle.source_requests.specs.Requests.{IsTooLong, reading_of_source}
use Rattle.source_menus.specs.Found.{FoundLink, found_for}
use Rattle.source_answers.specs.Printed as print
use Rattle.answers.specs.declared.refusal.Refusal.{Refusal}
use Rattle.answers.specs.declared.refusal.Refusal.TheVariants.{Memory, NoLink, Query}

abbrev pub refusal_of : KevError → Refusal
refusal_of NoMemory = Memory
refusal_of e = Query e

-- the pairs of the query, or the first reason why they are not printed
pub data IsReadingOf (query : Text) : Result Text Refusal → Type 0 where
  no_memory : IsReadingOf query (Err Memory)
  too_long : IsTooLong query → IsReadingOf query (Err (Query TooLong))
  printed : (text : Text) → text ≡ print.reading_text (reading_of_source query) → IsReadingOf query (Ok text)

abbrev pub is_empty : List FoundLink → Bool
is_empty links = length links == 0

-- the links of the query, or the first reason why none are printed
pub data AreLinksOf (targets : List TargetValue) (query : Text) : Result Text Refusal → Type 0 where
  no_memory : AreLinksOf targets query (Err Memory)
  too_long : IsTooLong query → AreLinksOf targets query (Err (Query TooLong))
  no_link : is_empty (found_for (menu_of targets) [] query).links ≡ true → AreLinksOf targets query (Err NoLink)
  printed : (text : Text) → is_empty (found_for (menu_of targets) [] query).links ≡ false
      → text ≡ print.links_text (found_for (menu_of targets) [] query).links → AreLinksOf targets query (Ok text)
