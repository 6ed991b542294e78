use Rattle.std.proofs.Common.{List, ap, ◌∙◌}
use Rattle.std.specs.List.{flat_map}
use Rattle.text_model.specs.Texts.{Text, texts_of}
use Rattle.kev_read.specs.Pairs.{KeyValue, all_of}
use Rattle.work_identifiers.specs.declared.numbers.StandardNumber.{StandardNumber}
use Rattle.openurl_reading.specs.IdentifiedNumbers.{find_in}
use Rattle.openurl_reading.specs.Numbers.{numbers_in}
use Rattle.openurl_reading.proofs.Walks.{flat_pushed, flat_all}
use Rattle.openurl_reading.proofs.identified_numbers.own_numbers.Goals as goal

abbrev under : StandardNumber → List KeyValue → Text → List Text
under number pairs key = numbers_in (find_in number) (all_of pairs key)

pub loop-key-preserved : goal.loop-key-preserved
loop-key-preserved c =
    flat_pushed (under c.args.number c.args.pairs.now) _ _ _ _ _ _ c.loop-key-test.true c.in_ok-push_all.ensures
    (c.in_ok-numbers_in.ensures ∙ ap (numbers_in (find_in c.args.number)) (ap texts_of c.deref.ensures.value ∙ c.in_ok-values.ensures))
    c.loop-key.invariant

pub returns : goal.returns
returns c =
    flat_all (under c.args.number c.args.pairs.now) _ _ _ c.loop-key-test.false c.loop-key.invariant
    ∙ ap (flat_map (under c.args.number c.args.pairs.now)) c.own_keys-key-items.ensures
