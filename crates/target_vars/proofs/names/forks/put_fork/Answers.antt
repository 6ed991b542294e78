use Rattle.std.proofs.Common.{◌≡◌, ◌++◌, ◌<◌, ◌≤◌, [], ◌∷◌, length, set, slice_get, Some, sym, ap, ◌∙◌, subst, arith}
use Rattle.std.proofs.lemmas.Option.{slice_get-get_or}
use Rattle.std.proofs.lemmas.Grind.{common_steps}
use Rattle.target_vars.specs.Private.NamesValue.{turned, IsForked}
use Rattle.target_vars.specs.declared.names.forks.Branch.TheVariants.{Further}
use Rattle.target_vars.proofs.NameForks.{forked_first, forked_at}
use Rattle.target_vars.proofs.names.forks.put_fork.Goals as goal
use Rattle.target_vars.proofs.names.forks.put_fork.Goals.{then-gap-number, else-gap-number}

pub returns : goal.returns
returns c =
    elim c.if-gap-number.branch [
      | then-gap-number w ↦
          let forks = c.args.forks.now.items in
          let gap = c.args.gap in
          let last = w.index-last.result.now in
          let below : gap < length forks = omega arith in
          let there : slice_get forks gap ≡ Some last = slice_get-get_or forks gap last below ∙ ap Some (sym w.index-last.ensures) in
          let is : c.push_reserved.new.self.items ≡ set forks gap (turned last c.args.name.now (Further (length forks))) ++ c.args.fork ∷ [] =
          grind (arith, common_steps) in
          subst (IsForked forks c.args.name.now gap c.args.fork) (sym is) (forked_at forks c.args.name.now gap c.args.fork last there)
      | else-gap-number w ↦
          let forks = c.args.forks.now.items in
          let past : length forks ≤ c.args.gap = omega arith in
          let is : c.push_reserved.new.self.items ≡ forks ++ c.args.fork ∷ [] = grind (arith, common_steps) in
          subst (IsForked forks c.args.name.now c.args.gap c.args.fork) (sym is) (forked_first forks c.args.name.now c.args.gap c.args.fork past)
    ]
