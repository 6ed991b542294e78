use Rattle.std.proofs.Common.{◌≡◌, ◌∷◌, ◌++◌, [], string_bytes, length, take, ap, subst, sym, ◌∙◌}
use Rattle.std.specs.Prelude.{◌==◌}
use Rattle.text_model.specs.Texts.{Text}
use Rattle.code_model.specs.Code.{Code}
use Rattle.kbart_rows.specs.declared.keys.Keys.{Keys}
use Rattle.row_scope.specs.NameColumns.{AreNameColumns}
use Rattle.row_scope.specs.NameNumbers.{AreOwnNumbers, with_code_names}
use Rattle.registry.specs.Targets.{TargetValue}
use Rattle.registry.specs.Names.{AreNamesOf}
use Rattle.registry.specs.Refusals.{MayBeAdded}
use Rattle.registry.specs.declared.names.Names.{Names}
use Rattle.registry.proofs.OneMoreTarget.{AreKeyed, added, keyed, not_added}
use Rattle.registry.proofs.registry.Registry.add.Goals.{In-Ok-push_both, After-new}
use Rattle.registry.proofs.registry.Registry.add.Goals as goal

abbrev no_names : Keys → Names
no_names keys = record { columns = record { names = []; keys = keys }; numbered = record { names = []; keys = keys } }

pub invariant_of-self-in-Ok-push_both : goal.invariant_of-self-in-Ok-push_both
invariant_of-self-in-Ok-push_both c =
    let inside = c.self.inside in
    let targets = inside.targets.items in
    let target : TargetValue = record { name = string_bytes c.args.name; code = c.args.code; table = c.args.table } in
    let old = c.set_keys.new.self in
    let new = c.add.new.self in
    let first = subst (λ ts. c.is_empty-is_first.result ≡ (length ts == 0)) (c.targets.ensures.value ∙ sym c.self.view_is) c.is_empty-is_first.ensures in
    let keyed : AreKeyed targets target old inside.places.items =
    keyed targets target inside.names old inside.places.items c.is_empty-is_first.result first
    (λ yes. c.set_keys.ensures.first yes ∙ ap no_names c.keys.ensures) c.set_keys.ensures.others c.self.invariant.1 in
    let numbered =
    c.in-Ok.ensures.numbered
    ∙ ap (λ (code : Code). record { names = with_code_names old.numbered.names code; keys = old.numbered.keys }) c.code.ensures.code in
    let one : AreNamesOf new.numbered.names target c.in-Ok.places =
    record {
      columns = subst (λ (code : Code). AreNameColumns code c.args.table.header c.in-Ok.places) c.code.ensures.code c.in-Ok.ensures.places;
      own = subst (λ (code : Code). AreOwnNumbers new.numbered.names code c.in-Ok.places.numbers.items) c.code.ensures.code c.in-Ok.ensures.own;
    } in
    let may : MayBeAdded targets target.name =
    subst (λ ts. MayBeAdded ts target.name) (sym c.self.view_is)
    (subst (λ (name : Text). MayBeAdded c.args.self.now name) c.as_str.ensures.value c.in_default.ensures) in
    added targets target old new inside.places.items c.in-Ok.places c.push_both.new.targets.items c.push_both.new.all_places.items c.self.invariant.0
    c.code.ensures.safe may keyed c.in-Ok.ensures.columns numbered c.in-Ok.ensures.kept one
    (c.in-Ok-push_both.ensures.targets ∙ ap (λ (t : TargetValue). targets ++ t ∷ []) c.new-target.ensures) c.in-Ok-push_both.ensures.places

pub invariant_of-self-in-Err : goal.invariant_of-self-in-Err
invariant_of-self-in-Err c =
    let inside = c.self.inside in
    let targets = inside.targets.items in
    let target : TargetValue = record { name = string_bytes c.args.name; code = c.args.code; table = c.args.table } in
    let old = c.set_keys.new.self in
    let new = c.add.new.self in
    let back = c.truncate.new.self in
    let first = subst (λ ts. c.is_empty-is_first.result ≡ (length ts == 0)) (c.targets.ensures.value ∙ sym c.self.view_is) c.is_empty-is_first.ensures in
    let keyed : AreKeyed targets target old inside.places.items =
    keyed targets target inside.names old inside.places.items c.is_empty-is_first.result first
    (λ yes. c.set_keys.ensures.first yes ∙ ap no_names c.keys.ensures) c.set_keys.ensures.others c.self.invariant.1 in
    let numbered =
    c.in-Ok.ensures.numbered
    ∙ ap (λ (code : Code). record { names = with_code_names old.numbered.names code; keys = old.numbered.keys }) c.code.ensures.code in
    let lens = c.lens-lens.ensures in
    not_added targets target old new back inside.places.items c.push_both.new.targets.items c.push_both.new.all_places.items c.self.invariant.0
    keyed c.in-Ok.ensures.columns numbered
    (c.truncate.ensures.columns ∙ ap (λ l. record { names = take l.0 new.columns.names; keys = new.columns.keys }) lens)
    (c.truncate.ensures.numbered ∙ ap (λ l. record { names = take l.1 new.numbered.names; keys = new.numbered.keys }) lens)
    c.in-Err.ensures.targets c.in-Err.ensures.places
