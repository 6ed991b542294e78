use Rattle.std.proofs.Common.{List, Bor, ap, ◌∙◌, arith}
use Rattle.std.proofs.lemmas.List.{take_all}
use Rattle.text_model.specs.Texts.{Text, texts_of}
use Rattle.environment_model.specs.Environment.{is_among}
use Rattle.rule_explanation.proofs.RowLemmas.{one_more_name}
use Rattle.rule_explanation.proofs.list_names.ListNames.new.Goals as goal

pub loop-name-preserved : goal.loop-name-preserved
loop-name-preserved c = record {
  names = λ other. grind (arith, c.in_ok-add.ensures.names other, c.loop-name.invariant.names other, one_more_name, c.loop-name-test.true);
  keys = c.in_ok-add.ensures.keys ∙ c.loop-name.invariant.keys;
}

pub returns-clause-names : goal.returns-clause-names
returns-clause-names c = λ other.
    c.loop-name.invariant.names other
    ∙ ap (λ (ns : List (Bor Text)). is_among other (texts_of ns)) (take_all c.loop-name.name-index c.args.names.now c.loop-name-test.false)
