use Rattle.std.proofs.Common.{sym, ap, ◌∙◌}
use Rattle.std.specs.List.{position}
use Rattle.std.specs.Str.{bytes_eq}
use Rattle.kbart_rows.specs.NameSets.{NameSetValue}
use Rattle.kbart_rows.proofs.NameSetLemmas.{position_in_texts}
use Rattle.kbart_rows.proofs.name_set.NameSet.position.Goals as goal

pub returns : goal.returns
returns c =
    let name = c.args.name.now in
    c.get_index_of.ensures.index ∙ position_in_texts c.self.inside.names.keys name
    ∙ ap (λ (set : NameSetValue). position (bytes_eq name) set.names) c.self.view_is
