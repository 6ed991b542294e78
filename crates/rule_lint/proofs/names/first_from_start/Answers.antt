-- No name before the start of the search resembles the name.
use Rattle.std.proofs.Common.{ap, ◌∙◌, subst, arith}
use Rattle.std.proofs.lemmas.List.{length-map}
use Rattle.std.specs.List.{find}
use Rattle.text_model.specs.Texts.{Text, texts_of}
use Rattle.rule_lint.specs.Names.{resembles}
use Rattle.rule_lint.specs.Private.Starts.{IsStart}
use Rattle.rule_lint.proofs.StartLemmas.{find_from_start, texts_from}
use Rattle.rule_lint.proofs.names.first_from_start.Goals as goal

pub returns : goal.returns
returns c =
    let names = c.args.names.now in
    let firsts = c.args.firsts.now in
    let m = c.args.multiplier in
    let name = c.args.name.now in
    let from = c.min-start.result in
    let start = subst (λ (bytes : Text). IsStart m firsts bytes c.start_of.result) c.as_bytes.ensures.value c.start_of.ensures in
    c.first_like.ensures ∙ ap (find (resembles name)) (texts_from names from)
    ∙ find_from_start m firsts (texts_of names) name c.start_of.result from c.requires start (omega (arith, c.min-start.ensures))
    (omega (arith, c.min-start.ensures, length-map names (λ name. name.now)))
