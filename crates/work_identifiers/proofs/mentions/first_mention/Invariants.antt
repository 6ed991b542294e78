use Rattle.std.proofs.Common.{◌≡◌, [], drop}
use Rattle.text_model.specs.Texts.{texts_of}
use Rattle.work_identifiers.specs.Mentions as spec
use Rattle.work_identifiers.proofs.mentions.first_mention.Given as goal

abbrev pub invariant-loop-word : goal.invariant-loop-word
invariant-loop-word l =
    spec.first_mention l.namespace l.before (texts_of (drop l.word-index l.words)) ≡ spec.first_mention l.namespace [] (texts_of l.words)
