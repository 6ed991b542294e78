use Rattle.std.proofs.Common.{◌≡◌, chars, sym, ap, ◌∙◌, map-id}
use Rattle.std.specs.List.{flat_map}
use Rattle.std.proofs.lemmas.Iterator.{YieldsList-from_chars}
use Rattle.std.proofs.lemmas.Iterator.Consumers.{YieldsList-end}
use Rattle.written_numbers.specs.Layout.{identifier_character}
use Rattle.written_numbers.specs.Layout.{without_layout}
use Rattle.written_numbers.proofs.layout.without_layout.Goals as goal

-- all characters are read
pub returns : goal.returns
unfolding without_layout
returns c =
    let yields = YieldsList-from_chars c.args.text.now c.utf8.text cc in
    let end =
    YieldsList-end yields c.loop-character.yielded _ c.loop-character.yielded_by _ _ c.in-None.is c.next.ensures.steps in
    let all : c.loop-character.yielded ≡ chars c.args.text.now = sym (map-id c.loop-character.yielded) ∙ end.0 in
    c.loop-character.invariant ∙ ap (λ cs. flat_map identifier_character cs) all
