-- The menu of a registry for a query, and why it has none.
use Rattle.std.specs.Prelude.{◌≡◌, List, None, Result, Ok, Err, true, false}
use Rattle.text_model.specs.Texts.{Text}
use Rattle.kev_read.specs.Pairs.{pairs_of}
use Rattle.kev_read.specs.Refusal.{refusal}
use Rattle.menu.specs.Links.{is_empty}
use Rattle.menu.specs.Printed as print
use Rattle.registry.specs.Targets.{TargetValue}
use Rattle.registry.specs.Entries.{menu_of}
use Rattle.answers.specs.Reading.{IsNoRequest}
use Rattle.answers.specs.declared.refusal.Refusal.{Refusal}
use Rattle.answers.specs.declared.refusal.Refusal.TheVariants.{NoLink, Memory}

-- the text of a menu with a link, or the first reason why there is none
pub data IsMenuOf (targets : List TargetValue) (query : Text) : Result Text Refusal → Type 0 where
  no_memory : refusal query ≡ None → IsMenuOf targets query (Err Memory)
  no_request : (e : Refusal) → IsNoRequest query e → IsMenuOf targets query (Err e)
  no_link : refusal query ≡ None → is_empty (menu_of targets (pairs_of query)) ≡ true → IsMenuOf targets query (Err NoLink)
  printed : (text : Text) → refusal query ≡ None → is_empty (menu_of targets (pairs_of query)) ≡ false
      → text ≡ print.text (menu_of targets (pairs_of query)) → IsMenuOf targets query (Ok text)
