-- The guard's own name, and after it those of its bounds.
use Rattle.std.proofs.Common.{◌≡◌, [], ◌∷◌, ap}
use Rattle.text_model.specs.Texts.{texts_of}
use Rattle.rule_parser.specs.Mentions.{bound_names}
use Rattle.rule_parser.proofs.mentions.bounded.Goals as goal

pub returns : goal.returns
returns c =
    let name = c.args.name.now in
    let own : texts_of c.in_ok-names.names.items ≡ name ∷ [] = ap texts_of c.in_ok-names.ensures.items in
    let low = c.in_ok-add_bound.ensures (name ∷ []) own in
    c.in_ok-add_bound-2.ensures (name ∷ bound_names c.args.low.now) low
