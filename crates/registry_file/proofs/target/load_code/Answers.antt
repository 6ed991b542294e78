use Rattle.std.proofs.Common.{Err, ap, subst}
use Rattle.std.proofs.lemmas.Result.{err_from_is_err_and}
use Rattle.code_file.specs.Fault.{fault, too_long}
use Rattle.code_file.specs.declared.error.CodeErrorKind.TheVariants.{TooLong}
use Rattle.code_file.specs.declared.limits.TheConstants.{MAX_BYTES}
use Rattle.verifier.specs.Accepted.{IsAcceptedFile}
use Rattle.verifier.specs.Faults.{IsLoadFault, no_code}
use Rattle.registry_file.specs.Loading.{fails_on}
use Rattle.registry_file.proofs.StopLemmas.{code_refused, exists}
use Rattle.registry_file.proofs.target.load_code.Goals as goal

pub returns-in_err-load-in-Ok-clause-err : goal.returns-in_err-load-in-Ok-clause-err
returns-in_err-load-in-Ok-clause-err g c =
    let made = err_from_is_err_and c.from_residual.result c.from_residual.ensures.1 in
    let refused = subst (λ bytes. IsLoadFault bytes c.in_err-load-in-Ok.field-0.0) c.deref.ensures.value c.in_err-load-in-Ok.ensures.refused in
    rw made.1 (
    code_refused (fails_on g.F.Files.at g.F.Files.fails (g.F.Files.at c.args.files.now))
    (g.F.Files.at c.args.files.now c.args.path.now) c.args.path.now c.in_err-load-in-Ok.field-0.0 made.0
    (c.in-Ok.bytes.items, c.in-Ok.ensures.whole, refused) made.2
    )

pub returns-in_err-load-in-Ok-clause-absent : goal.returns-in_err-load-in-Ok-clause-absent
returns-in_err-load-in-Ok-clause-absent g c = exists (g.F.Files.at c.args.files.now c.args.path.now) c.in-Ok.bytes.items c.in-Ok.ensures.whole

pub returns-in_ok-load-in-Ok-clause-ok : goal.returns-in_ok-load-in-Ok-clause-ok
returns-in_ok-load-in-Ok-clause-ok g c = (
  c.in-Ok.bytes.items,
  c.in-Ok.ensures.whole,
  subst (λ bytes. IsAcceptedFile bytes c.in_ok-load-in-Ok.field-0) c.deref.ensures.value c.in_ok-load-in-Ok.ensures.accepted,
)

pub returns-in_ok-load-in-Ok-clause-absent : goal.returns-in_ok-load-in-Ok-clause-absent
returns-in_ok-load-in-Ok-clause-absent g c = exists (g.F.Files.at c.args.files.now c.args.path.now) c.in-Ok.bytes.items c.in-Ok.ensures.whole

pub returns-in-Err-TooLong-clause-err : goal.returns-in-Err-TooLong-clause-err
returns-in-Err-TooLong-clause-err g c =
    let long = c.in-Err-TooLong.ensures.too_long (ap Err c.in-Err-TooLong.field-0-is) in
    (λ same. absurd (cc same), (long.0, long.1, no_code (fault TooLong MAX_BYTES) (too_long long.2)))
