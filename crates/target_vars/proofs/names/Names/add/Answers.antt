use Rattle.std.proofs.Common.{arith, rules, ◌≡◌, ◌+◌, [], ◌∷◌, ◌++◌, length, sym, subst}
use Rattle.std.proofs.lemmas.Grind.{common_steps}
use Rattle.target_vars.specs.Private.NamesValue.{NamesValue, IsGap, Separates, IsForked}
use Rattle.target_vars.specs.declared.names.NamePlace.{NamePlace}
use Rattle.target_vars.proofs.MoreForks.{placed_names-push, are_names-push}
use Rattle.target_vars.proofs.names.Names.add.Goals as goal

pub invariant_of-self-2 : goal.invariant_of-self-2
invariant_of-self-2 c =
    let r = c.self.inside in
    let name = c.args.name.now in
    let p : NamePlace = record { start = c.len-start.result; end = c.len.result } in
    let bytes : c.extend_from_slice.new.self.items ≡ r.bytes.items ++ name = search rules in
    let places : c.push_reserved.new.self.items ≡ r.places.items ++ p ∷ [] = search rules in
    let start : p.start ≡ length r.bytes.items = search rules in
    let end : p.end ≡ length r.bytes.items + length name = search rules in
    let forked : IsForked r.forks.items name c.args.gap c.fork_of-fork.result c.put_fork.new.forks.items = grind (arith, common_steps) in
    let separates : Separates c.args.self.now name c.args.gap c.fork_of-fork.result = grind (arith, common_steps) in
    rw (bytes, places)
    (are_names-push r.bytes.items name r.places.items r.forks.items c.put_fork.new.forks.items p c.args.gap c.fork_of-fork.result c.self.invariant
    (subst (λ (v : NamesValue). IsGap v name c.args.gap) (sym c.self.view_is) c.requires)
    (subst (λ (v : NamesValue). Separates v name c.args.gap c.fork_of-fork.result) (sym c.self.view_is) separates) forked start end)

pub returns-clause-ok : goal.returns-clause-ok
returns-clause-ok c = grind (arith, placed_names-push, c.self.view_is)
