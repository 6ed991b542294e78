use Rattle.std.proofs.Common.{subst}
use Rattle.std.proofs.lemmas.Result.{err_from_is_err_and}
use Rattle.kbart_rows.specs.Reading.{IsFault, IsTable}
use Rattle.registry_file.specs.Loading.{fails_on}
use Rattle.registry_file.proofs.StopLemmas.{exists, table_refused}
use Rattle.registry_file.proofs.target.read_table.Goals as goal

pub returns-in_err-read_keyed-in-Ok-clause-err : goal.returns-in_err-read_keyed-in-Ok-clause-err
returns-in_err-read_keyed-in-Ok-clause-err g c =
    let made = err_from_is_err_and c.from_residual.result c.from_residual.ensures.1 in
    let refused = subst (λ bytes. IsFault bytes c.in_err-read_keyed-in-Ok.field-0.0) c.deref.ensures.value c.in_err-read_keyed-in-Ok.ensures.refused in
    rw made.1 (
    table_refused (fails_on g.F.Files.at g.F.Files.fails (g.F.Files.at c.args.files.now))
    (g.F.Files.at c.args.files.now c.args.path.now) c.args.path.now c.in_err-read_keyed-in-Ok.field-0.0 made.0
    (c.in-Ok.bytes.items, c.in-Ok.ensures.whole, refused) made.2
    )

pub returns-in_err-read_keyed-in-Ok-clause-absent : goal.returns-in_err-read_keyed-in-Ok-clause-absent
returns-in_err-read_keyed-in-Ok-clause-absent g c = exists (g.F.Files.at c.args.files.now c.args.path.now) c.in-Ok.bytes.items c.in-Ok.ensures.whole

pub returns-in_ok-read_keyed-in-Ok-clause-ok : goal.returns-in_ok-read_keyed-in-Ok-clause-ok
returns-in_ok-read_keyed-in-Ok-clause-ok g c = (
  c.in-Ok.bytes.items,
  c.in-Ok.ensures.whole,
  subst (λ bytes. IsTable bytes c.in_ok-read_keyed-in-Ok.field-0) c.deref.ensures.value c.in_ok-read_keyed-in-Ok.ensures.accepted,
)

pub returns-in_ok-read_keyed-in-Ok-clause-absent : goal.returns-in_ok-read_keyed-in-Ok-clause-absent
returns-in_ok-read_keyed-in-Ok-clause-absent g c = exists (g.F.Files.at c.args.files.now c.args.path.now) c.in-Ok.bytes.items c.in-Ok.ensures.whole
