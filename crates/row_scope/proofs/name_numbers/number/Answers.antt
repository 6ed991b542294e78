use Rattle.std.proofs.Common.{◌≡◌, ◌∷◌, ◌++◌, [], List, Bool, Some, sym, ap, ◌∙◌, if◌then◌else◌}
use Rattle.text_model.specs.Texts.{Text}
use Rattle.row_scope.specs.NameNumbers.{own_number}
use Rattle.row_scope.proofs.NumberLemmas.{among, last_number, not_among, with_known}
use Rattle.row_scope.proofs.name_numbers.number.Goals as goal

pub returns-in-Some-clause-names : goal.returns-in-Some-clause-names
returns-in-Some-clause-names c =
    let names = c.args.numbered.now.names in
    sym (with_known names c.args.name.now (among names c.args.name.now c.in-Some.number (sym c.in-Some.ensures)))

pub returns-clause-own : goal.returns-clause-own
returns-clause-own c =
    let names = c.args.numbered.now.names in
    let name = c.args.name.now in
    let none = not_among names name (sym c.in_default.ensures) in
    let added : c.add.new.self.names ≡ names ++ name ∷ [] =
    c.in_ok-add.ensures.names ∙ ap (λ (found : Bool). if found then names else names ++ name ∷ []) none in
    ap (λ (numbered : List Text). own_number numbered name) added ∙ last_number names name (sym c.in_default.ensures) ∙ ap Some (sym c.len-number.ensures)
