-- The columns, the lists and the keys, one after another.
use Rattle.std.proofs.Common.{Option, sym, ap, ◌∙◌}
use Rattle.std.specs.List.{find, filter}
use Rattle.std.specs.Option.{option_or}
use Rattle.text_model.specs.Texts.{Text}
use Rattle.environment_model.specs.Lists.{list_names}
use Rattle.rule_parser.specs.Names.{each_once}
use Rattle.standard_names.specs.Keys.{request_keys}
use Rattle.rule_lint.specs.Names.{is_name, resembles}
use Rattle.rule_lint.proofs.ListSteps.{find_of_three}
use Rattle.rule_lint.proofs.target.Target.resembled.Goals as goal

pub returns-in-Some : goal.returns-in-Some
returns-in-Some c =
    let p = resembles c.args.name.now in
    let columns = filter is_name c.args.self.now.table.now.header in
    let lists = each_once (list_names c.args.self.now.rules.now.lists) in
    sym (find_of_three p columns lists request_keys
    ∙ ap (λ (o : Option Text). option_or o (option_or (find p lists) (find p request_keys))) (sym c.in-Some.ensures))

pub returns-in-Some-list_like : goal.returns-in-Some-list_like
returns-in-Some-list_like c =
    let p = resembles c.args.name.now in
    let columns = filter is_name c.args.self.now.table.now.header in
    let lists = each_once (list_names c.args.self.now.rules.now.lists) in
    sym (find_of_three p columns lists request_keys
    ∙ (ap (λ (o : Option Text). option_or o (option_or (find p lists) (find p request_keys))) (sym c.in_default.ensures)
    ∙ ap (λ (o : Option Text). option_or o (find p request_keys)) (sym c.in-Some-list_like.ensures)))

pub returns : goal.returns
returns c =
    let p = resembles c.args.name.now in
    let columns = filter is_name c.args.self.now.table.now.header in
    let lists = each_once (list_names c.args.self.now.rules.now.lists) in
    c.key_like.ensures
    ∙ sym (find_of_three p columns lists request_keys
    ∙ (ap (λ (o : Option Text). option_or o (option_or (find p lists) (find p request_keys))) (sym c.in_default.ensures)
    ∙ ap (λ (o : Option Text). option_or o (find p request_keys)) (sym c.in_default-list_like.ensures)))
