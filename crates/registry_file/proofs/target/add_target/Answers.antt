use Rattle.std.proofs.Common.{refl, subst}
use Rattle.std.proofs.Math.Path.{fun_ext}
use Rattle.std.proofs.lemmas.Result.{IfErr-weaker, err_from_is_err_and, on_ok_weaker}
use Rattle.files.specs.Found.{OfFile}
use Rattle.kbart_rows.specs.Reading.{IsTable}
use Rattle.registry_file.specs.Loading.{HasTable, fails_on}
use Rattle.registry_file.specs.Private.Stops.{IsNoTable, IsNotAdded, IsStop}
use Rattle.registry_file.proofs.StopLemmas.{no_code, no_table, not_taken}
use Rattle.registry_file.proofs.target.add_target.Goals as goal

pub returns-in_err-code-clause-err : goal.returns-in_err-code-clause-err
returns-in_err-code-clause-err g c =
    let line = c.args.line.now in
    let made = err_from_is_err_and c.from_residual.result c.from_residual.ensures.1 in
    rw (made.1, made.2)
    (no_code (fails_on g.F.Files.at g.F.Files.fails (g.F.Files.at c.args.files.now))
    (g.F.Files.at c.args.files.now) c.args.registry.now line.name.now line.code.now line.table.now c.in_err-code.field-0.0
    c.in_err-code.ensures.err)

pub returns-in_err-table-clause-err : goal.returns-in_err-table-clause-err
returns-in_err-table-clause-err g c =
    let line = c.args.line.now in
    let code = c.in_ok-code.ensures.ok in
    let made = err_from_is_err_and c.from_residual-in_err-table.result c.from_residual-in_err-table.ensures.1 in
    let refused = subst (λ disk. IsNoTable (fails_on g.F.Files.at g.F.Files.fails disk) (disk line.table.now) line.table.now c.in_err-table.field-0.0)
    (fun_ext c.load_code.ensures.same)
    c.in_err-table.ensures.err in
    rw (made.1, made.2)
    (no_table (fails_on g.F.Files.at g.F.Files.fails (g.F.Files.at c.args.files.now))
    (g.F.Files.at c.args.files.now) c.args.registry.now line.name.now line.code.now line.table.now c.in_err-table.field-0.0
    (code.0, code.1, (c.in_ok-code.code, code.2)) refused)

pub returns-clause-err : goal.returns-clause-err
returns-clause-err g c =
    let disk = g.F.Files.at c.args.files.now in
    let line = c.args.line.now in
    let code = c.in_ok-code.ensures.ok in
    let table = c.in_ok-table.ensures.ok in
    IfErr-weaker c.add_named.result (IsNotAdded c.args.registry.now line.name.now)
    (IsStop (fails_on g.F.Files.at g.F.Files.fails (g.F.Files.at c.args.files.now)) disk c.args.registry.now line.name.now line.code.now line.table.now)
    (λ stop why. not_taken (fails_on g.F.Files.at g.F.Files.fails (g.F.Files.at c.args.files.now))
    disk c.args.registry.now line.name.now line.code.now line.table.now stop
    (code.0, code.1, (c.in_ok-code.code, code.2))
    (subst HasTable (c.load_code.ensures.same line.table.now) (table.0, table.1, (c.in_ok-table.table, table.2)))
    why) c.add_named.ensures.err

pub returns-clause-ok : goal.returns-clause-ok
returns-clause-ok g c =
    let line = c.args.line.now in
    let code = c.in_ok-code.code in
    let table = c.in_ok-table.table in
    let found = subst (λ file. OfFile file (λ bytes. IsTable bytes table)) (c.load_code.ensures.same line.table.now) c.in_ok-table.ensures.ok in
    on_ok_weaker c.add_named.result
    (λ (added : _). (
      record { name = line.name.now; code = code; table = table },
      record { named = refl; code = c.in_ok-code.ensures.ok; table = found; keyed = c.in_ok-table.ensures.keyed },
      added,
    )) c.add_named.ensures.ok
