-- The lists that the rules return fill the environment exactly as those that they declare.
use Rattle.std.proofs.Common.{ap, ◌∙◌}
use Rattle.text_model.specs.Texts.{texts_of}
use Rattle.environment_model.specs.Environment.{Environment}
use Rattle.kev_read.specs.Filling.{filled}
use Rattle.kbart_rows.specs.NameSets.{NameSetValue}
use Rattle.rule_explanation.proofs.RowLemmas.{same_environment, same_names}
use Rattle.rule_explanation.proofs.rules_request.RulesRequest.new.Goals as goal

pub invariant_of-result : goal.invariant_of-result
invariant_of-result c =
    let pairs = c.args.request.now.pairs in
    let lists = c.args.rules.now.lists in
    let seen = ap texts_of c.deref.ensures.value ∙ c.in_ok-names.ensures in
    let filled_with = ap texts_of c.deref-2.ensures.value ∙ c.in_ok-names.ensures in (
      c.in-Ok.ensures.ok ∙ same_environment _ lists _ pairs filled_with ∙ ap (λ (env : Environment). filled lists env pairs) c.new-values.ensures.value,
      c.in_ok-known.ensures.known,
      λ name. c.in_ok-lists.ensures.names name ∙ same_names name _ lists seen,
      c.in_ok-lists.ensures.keys ∙ c.keys.ensures,
      ap (λ (set : NameSetValue). set.keys) c.in_ok-known.ensures.names ∙ c.in_ok-mentioned.ensures ∙ c.keys-2.ensures,
    )
