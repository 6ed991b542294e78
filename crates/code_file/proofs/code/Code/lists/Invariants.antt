use Rattle.std.proofs.Common.{◌≡◌, map, take}
use Rattle.std.specs.Prelude.{filter}
use Rattle.code_file.proofs.code.Code.lists.Given as goal

abbrev pub invariant-loop-name : goal.invariant-loop-name
invariant-loop-name l =
    map (λ s. s.now) l.lists.items ≡ map (λ n. n.text) (filter (λ n. n.list) (take l.name-index l.name-items))
