use Rattle.std.proofs.Common.{List, ap, subst, sym, ◌∙◌}
use Rattle.text_model.specs.Texts.{Text}
use Rattle.registry.specs.Names.{AreAllAmong, column_names}
use Rattle.registry.proofs.OneMoreTarget.{all_among}
use Rattle.registry.proofs.registry.Registry.columns.Goals as goal

pub returns-clause-among : goal.returns-clause-among
returns-clause-among c =
    let names = c.self.invariant.1.column_names ∙ ap column_names c.self.view_is in
    subst (λ (columns : List Text). AreAllAmong columns c.args.self.now) (sym names) (all_among c.args.self.now)
