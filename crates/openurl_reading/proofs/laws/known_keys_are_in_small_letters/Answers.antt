use Rattle.std.proofs.lemmas.List.Elements.{All-append}
use Rattle.openurl_reading.specs.Counting.{counting}
use Rattle.openurl_reading.specs.Reading.{normal_form, derived}
use Rattle.openurl_reading.proofs.Free.{named-counting, named-normal_form, named-derived}
use Rattle.openurl_reading.proofs.SmallKeys.{IsNamed}
use Rattle.openurl_reading.proofs.laws.known_keys_are_in_small_letters.Goals as goal

pub returns : goal.returns
returns c pairs =
    let normal = normal_form (counting pairs) in
    All-append IsNamed (derived normal) normal (named-derived normal) (named-normal_form (counting pairs) (named-counting pairs))
