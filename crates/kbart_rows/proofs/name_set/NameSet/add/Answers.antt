use Rattle.std.proofs.Common.{◌≡◌, ◌∷◌, ◌++◌, [], Bool, true, sym, ap, ◌∙◌, if◌then◌else◌}
use Rattle.text_model.specs.Texts.{Text}
use Rattle.std.specs.Str.{bytes_eq}
use Rattle.kbart_rows.specs.NameSets.{NameSetValue, has, with_name}
use Rattle.kbart_rows.specs.Private.NameSetTexts.{texts_in}
use Rattle.kbart_rows.proofs.NameSetLemmas.{any_text, inserted}
use Rattle.kbart_rows.proofs.name_set.NameSet.add.Goals as goal

pub returns-in_ok-insert-clause-names : goal.returns-in_ok-insert-clause-names
returns-in_ok-insert-clause-names c =
    let names = c.self.inside.names.keys in
    let name = c.in_ok-from_str.field-0 in
    ap texts_in c.in_ok-insert.ensures.keys ∙ inserted names name
    ∙ ap (λ (text : Text). with_name (texts_in names) text) c.in_ok-from_str.ensures.ok
    ∙ ap (λ (set : NameSetValue). with_name set.names c.args.name.now) c.self.view_is

pub returns-else-not-contains-clause-names : goal.returns-else-not-contains-clause-names
returns-else-not-contains-clause-names c =
    let names = c.args.self.now.names in
    let name = c.args.name.now in
    let there : has names name ≡ true =
    ap (λ (set : NameSetValue). has set.names name) (sym c.self.view_is) ∙ sym (any_text (bytes_eq name) c.self.inside.names.keys)
    ∙ sym c.contains.ensures ∙ c.if-not-contains.false in
    sym (ap (λ (found : Bool). if found then names else names ++ name ∷ []) there)
