use Rattle.std.proofs.Common.{◌≡◌, ◌++◌, take}
use Rattle.std.specs.List.{filter_map}
use Rattle.text_model.specs.Texts.{texts_of}
use Rattle.work_identifiers.specs.Places as spec
use Rattle.work_identifiers.proofs.places.push_after.Given as goal

abbrev pub invariant-loop-beginning : goal.invariant-loop-beginning
invariant-loop-beginning l =
    texts_of l.rests.items
    ≡ texts_of l.initial.rests.items ++ filter_map (spec.after l.text) (texts_of (take l.beginning-index l.beginnings))
