use Rattle.std.proofs.Common.{subst}
use Rattle.registry.specs.Refusals.{IsAddRefusal}
use Rattle.registry_file.proofs.StopLemmas.{not_added}
use Rattle.registry_file.proofs.target.add_named.Goals as goal

pub returns-in-Err-clause-err : goal.returns-in-Err-clause-err
returns-in-Err-clause-err c =
    not_added c.args.registry.now c.args.name.now c.in-Err.refused.kind c.from.result
    (subst (λ name. IsAddRefusal c.args.registry.now name c.in-Err.refused.kind) c.in_ok-name.ensures.ok c.in-Err.ensures.refused) c.from.ensures
