use Rattle.std.proofs.Common.{ap, sym, ◌∙◌, subst}
use Rattle.std.specs.List.{find}
use Rattle.text_model.specs.Texts.{texts_of}
use Rattle.rule_lint.specs.Names.{resembles}
use Rattle.rule_lint.specs.Private.Starts.{AreSearchStarts}
use Rattle.rule_lint.proofs.target.Target.column_like.Goals as goal

pub first_from_start-requires : goal.first_from_start-requires
first_from_start-requires c =
    let self = c.args.self.now in
    subst (AreSearchStarts self.multiplier self.column_starts) (sym (ap texts_of c.deref.ensures.value)) self.starts_of_columns

pub returns : goal.returns
returns c =
    c.first_from_start.ensures ∙ ap (find (resembles c.args.name.now)) (ap texts_of c.deref.ensures.value ∙ c.args.self.now.template_columns_of_table)
