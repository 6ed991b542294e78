use Rattle.std.proofs.Common.{sym, ap, ◌∙◌, List}
use Rattle.text_model.specs.Texts.{Text}
use Rattle.std.specs.Str.{bytes_eq}
use Rattle.kbart_rows.specs.NameSets.{NameSetValue, has}
use Rattle.kbart_rows.proofs.NameSetLemmas.{any_text}
use Rattle.kbart_rows.proofs.name_set.NameSet.contains.Goals as goal

pub returns : goal.returns
returns c =
    let name = c.args.name.now in
    c.contains.ensures ∙ any_text (bytes_eq name) c.self.inside.names.keys ∙ ap (λ (set : NameSetValue). has set.names name) c.self.view_is
