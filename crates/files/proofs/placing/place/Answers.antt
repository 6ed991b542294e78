use Rattle.std.proofs.Common.{inr, subst}
use Rattle.std.proofs.Math.Path.{fun_ext}
use Rattle.files.specs.Placing.{IsUnwritten, unwritten}
use Rattle.files.proofs.placing.place.Goals as goal

-- the check has changed nothing

pub returns-clause-failed : goal.returns-clause-failed
returns-clause-failed g c is =
    let at = g.F.Files.at in
    unwritten c.in_ok-mode.ensures.ok
    (subst (λ disk. IsUnwritten at g.F.Files.fails disk c.args.path.now c.place_by.new.files) (fun_ext c.check_place.ensures.same)
    (c.place_by.ensures.failed is))

pub returns-clause-ran_out : goal.returns-clause-ran_out
returns-clause-ran_out g c is =
    let at = g.F.Files.at in
    inr (unwritten c.in_ok-mode.ensures.ok
    (subst (λ disk. IsUnwritten at g.F.Files.runs_out disk c.args.path.now c.place_by.new.files) (fun_ext c.check_place.ensures.same)
    (c.place_by.ensures.ran_out is)))
