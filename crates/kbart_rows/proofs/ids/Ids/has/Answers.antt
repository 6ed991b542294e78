use Rattle.std.proofs.Common.{arith, ◌≡◌, ◌∷◌, ◌||◌, Bool, List, [], ap, map, refl}
use Rattle.std.proofs.lemmas.List.{take_all}
use Rattle.std.specs.List.{list_any}
use Rattle.text_model.specs.Texts.{Text}
use Rattle.kbart_rows.specs.Private.Hashed.{id_text}
use Rattle.kbart_rows.specs.declared.ids.Id.{Id}
use Rattle.kbart_rows.proofs.ids.Ids.has.Goals as goal

any_text : (test : Text → Bool) (ids : List Id) → list_any test (map id_text ids) ≡ list_any (λ id. test (id_text id)) ids
any_text test [] = refl
any_text test (id ∷ ids) = ap (λ later. test (id_text id) || later) (any_text test ids)

pub returns : goal.returns
returns c = grind (arith, take_all, c.loop-id.invariant, c.self.view_is, any_text)
