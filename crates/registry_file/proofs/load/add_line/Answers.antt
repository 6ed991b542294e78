use Rattle.std.proofs.Common.{IfNone, refl, subst, sym}
use Rattle.csv.specs.Records.{fields_of}
use Rattle.registry_file.specs.Lines.{IsNoTargetLine, IsTargetLine}
use Rattle.registry_file.specs.Loading.{IsTargetFault, fails_on}
use Rattle.registry_file.proofs.StopLemmas.{named_fault}
use Rattle.registry_file.proofs.load.add_line.Goals as goal

pub returns-in_default-clause-err : goal.returns-in_default-clause-err
returns-in_default-clause-err g c =
    (refl, subst (λ cells. IfNone cells (IsNoTargetLine (fields_of c.args.line.now))) c.in_default.is c.target_line.ensures.none)

pub returns-in-Ok-clause-ok : goal.returns-in-Ok-clause-ok
returns-in-Ok-clause-ok g c =
    let cells = c.in-Some.cells in
    let added = c.in-Ok.ensures.ok in (
      added.0,
      record {
        code_path = cells.code.now;
        table_path = cells.table.now;
        line = subst (λ name. IsTargetLine (fields_of c.args.line.now) name cells.code.now cells.table.now) (sym added.1.named) c.in-Some.ensures.line;
        code = added.1.code;
        table = added.1.table;
        keyed = added.1.keyed;
      },
      added.2,
    )

pub returns-in_ok-of_target-in-Err-clause-err : goal.returns-in_ok-of_target-in-Err-clause-err
returns-in_ok-of_target-in-Err-clause-err g c =
    let disk = g.F.Files.at c.args.files.now in
    let fails = fails_on g.F.Files.at g.F.Files.fails disk in
    let cells = c.in-Some.cells in
    let e = c.in_ok-of_target-in-Err.field-0 in
    let named = sym c.in_ok-of_target-in-Err.ensures.name in
    let why = named_fault fails disk c.args.registry.now cells.name.now cells.code.now cells.table.now c.in-Err.stop e.fault c.in-Err.ensures.err
    c.in_ok-of_target-in-Err.ensures.fault in
    record {
      code_path = cells.code.now;
      table_path = cells.table.now;
      line = subst (λ name. IsTargetLine (fields_of c.args.line.now) name cells.code.now cells.table.now) named c.in-Some.ensures.line;
      fault = subst (λ name. IsTargetFault fails disk c.args.registry.now name cells.code.now cells.table.now e.fault) named why;
    }
