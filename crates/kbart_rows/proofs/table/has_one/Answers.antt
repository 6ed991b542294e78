use Rattle.std.proofs.Common.{◌≡◌, ◌∙◌, ◌∷◌, List, [], Option, None, ap, false, option_map, refl, sym}
use Rattle.std.specs.List.{list_any}
use Rattle.text_model.specs.Texts.{Text}
use Rattle.kbart_rows.specs.Identifiers.{normalised}
use Rattle.kbart_rows.specs.Private.Kept.{is_id}
use Rattle.kbart_rows.proofs.table.has_one.Goals as goal

none_is : (ids : List Text) → list_any (λ id. is_id id None) ids ≡ false
none_is [] = refl
none_is (id ∷ ids) = none_is ids

pub returns-in-None : goal.returns-in-None
returns-in-None c =
    let ids = c.args.ids.now in
    sym (ap (λ (found : Option Text). list_any (λ id. is_id id (option_map normalised found)) ids) (sym c.in-None.ensures) ∙ none_is ids)
