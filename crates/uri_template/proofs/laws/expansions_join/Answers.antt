use Rattle.std.proofs.lemmas.Grind.{flat_map-append}
use Rattle.uri_template.specs.Expansion.{part_text}
use Rattle.uri_template.proofs.laws.expansions_join.Goals as goal

pub returns : goal.returns
returns c = λ look parts following. flat_map-append (part_text look) parts following
