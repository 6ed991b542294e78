use Rattle.std.proofs.Common.{◌≡◌, ◌++◌, take}
use Rattle.std.specs.List.{flat_map}
use Rattle.text_model.specs.Texts.{texts_of}
use Rattle.source_menus.specs.Found.{Further, Own, first_of_each, links_by}
use Rattle.source_menus.proofs.found.links_for.Given as goal

-- the links of the query's own request, and of those with the numbers so far
abbrev pub invariant-loop-number : goal.invariant-loop-number
invariant-loop-number g l =
    let menus = g.S.MenuSource.menus l.source in
    l.links.items ≡ first_of_each (links_by menus l.pairs Own
    ++ flat_map (λ number. links_by menus l.pairs (Further number)) (texts_of (take l.number-index l.numbers)))
