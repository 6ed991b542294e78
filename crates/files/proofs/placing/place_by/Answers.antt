use Rattle.std.proofs.Common.{◌≡◌, ◌⊎◌, Err, ap, refl, subst, ◌∙◌}
use Rattle.files.specs.Found.{IsFree}
use Rattle.files.specs.Changes.{ChangesOnly, removed}
use Rattle.files.specs.Failures.{HasFailedThere}
use Rattle.files.specs.Placing.{IsDraftFailure, no_draft, no_file}
use Rattle.files.specs.declared.call.FileCall.TheVariants.{Create, Remove}
use Rattle.files.proofs.PlacingLemmas.{IsRemoval, gone_again, gone_or_left, met, not_filled_earlier, others_same}
use Rattle.files.proofs.placing.place_by.Goals as goal

pub returns-in_err-draft-clause-failed : goal.returns-in_err-draft-clause-failed
returns-in_err-draft-clause-failed g c is =
    let old = c.args.files.now in
    let why = c.in_err-draft.ensures.failed (ap Err (met c.from_residual.result _ _ c.from_residual.ensures.1 is)) in
    no_draft old (λ p. refl {a = g.F.Files.at old p}) (subst (λ p. g.F.Files.fails old Create p c.create.new.self) c.requires why)

pub returns-in_err-draft-clause-ran_out : goal.returns-in_err-draft-clause-ran_out
returns-in_err-draft-clause-ran_out g c is =
    let old = c.args.files.now in
    let why = c.in_err-draft.ensures.ran_out (ap Err (met c.from_residual.result _ _ c.from_residual.ensures.1 is)) in
    no_draft old (λ p. refl {a = g.F.Files.at old p}) (subst (λ p. g.F.Files.runs_out old Create p c.create.new.self) c.requires why)

pub returns-in-Err-clause-err : goal.returns-in-Err-clause-err
returns-in-Err-clause-err g c =
    let at = g.F.Files.at in
    let fails = g.F.Files.fails in
    let old = at c.args.files.now in
    let first = at c.create.new.self in
    let filled = c.fill.new.files in
    let new = c.remove.new.self in
    let other = c.args.other.now in
    let free = c.in_ok-draft.ensures.free in
    let same = c.in_ok-draft.ensures.others in
    let removal : IsRemoval at fails old first other same filled new c.remove.result = record {
      others = c.remove.ensures.others;
      err = c.remove.ensures.err;
      gone = c.remove.ensures.gone;
      kind = c.remove.ensures.kind;
      failed = c.remove.ensures.failed;
    } in
    let left = c.in-Err.ensures.left ∙ ap removed c.in_ok-draft.ensures.here ∙ gone_again (old other) free in
    let nothing_left = gone_or_left at fails old first other same filled new c.in-Err.ensures.err c.remove.result removal left c.in-Err.ensures.remains in
    record {
      others = subst (λ p. ChangesOnly p old (at new)) c.requires
          (others_same at fails old first other same filled new c.in-Err.ensures.err c.remove.result removal);
      nothing_left = subst (λ p. (at new p ≡ old p) ⊎ HasFailedThere at fails old Remove p new) c.requires nothing_left;
    }

pub returns-in-Err-clause-failed : goal.returns-in-Err-clause-failed
returns-in-Err-clause-failed g c is =
    let at = g.F.Files.at in
    let old = at c.args.files.now in
    let why = c.fill.ensures.failed (c.in-Err.is ∙ is) in
    no_file (subst (λ p. IsFree (old p)) c.requires c.in_ok-draft.ensures.free)
    (subst (IsDraftFailure at g.F.Files.fails old) c.requires
    (not_filled_earlier at g.F.Files.fails old (at c.create.new.self) c.args.other.now c.in_ok-draft.ensures.others why))

pub returns-in-Err-clause-ran_out : goal.returns-in-Err-clause-ran_out
returns-in-Err-clause-ran_out g c is =
    let at = g.F.Files.at in
    let old = at c.args.files.now in
    let why = c.fill.ensures.ran_out (c.in-Err.is ∙ is) in
    no_file (subst (λ p. IsFree (old p)) c.requires c.in_ok-draft.ensures.free)
    (subst (IsDraftFailure at g.F.Files.runs_out old) c.requires
    (not_filled_earlier at g.F.Files.runs_out old (at c.create.new.self) c.args.other.now c.in_ok-draft.ensures.others why))
