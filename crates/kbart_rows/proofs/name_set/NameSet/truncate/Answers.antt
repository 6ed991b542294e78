use Rattle.std.proofs.Common.{take, string_bytes, sym, ap, ◌∙◌}
use Rattle.std.proofs.lemmas.List.{take-map}
use Rattle.kbart_rows.specs.NameSets.{NameSetValue}
use Rattle.kbart_rows.specs.Private.NameSetTexts.{texts_in}
use Rattle.kbart_rows.proofs.name_set.NameSet.truncate.Goals as goal

pub returns-clause-names : goal.returns-clause-names
returns-clause-names c =
    ap texts_in c.truncate.ensures.keys ∙ sym (take-map string_bytes c.args.len c.self.inside.names.keys)
    ∙ ap (λ (set : NameSetValue). take c.args.len set.names) c.self.view_is
