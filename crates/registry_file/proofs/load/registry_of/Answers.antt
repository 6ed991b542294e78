use Rattle.std.proofs.Common.{◌+◌, ◌∙◌, arith, map, subst, sym, take, take_all}
use Rattle.std.proofs.Math.Path.{fun_ext}
use Rattle.std.proofs.lemmas.Result.{err_from_is_err_and}
use Rattle.csv.specs.Records.{fields_of}
use Rattle.kbart_rows.specs.Reading.{AreLines}
use Rattle.registry_file.specs.Loading.{AreTargets, IsRefusedLine, IsTargetAt, fails_on}
use Rattle.registry_file.proofs.LoadLemmas.{IsNext, line_fault, one_more}
use Rattle.registry_file.proofs.load.registry_of.Goals as goal

pub returns-in_err-lines-clause-err : goal.returns-in_err-lines-clause-err
returns-in_err-lines-clause-err g c =
    let made = err_from_is_err_and c.from_residual.result c.from_residual.ensures.1 in
    rw (made.1, made.2) tt

pub returns-in_err-add_line-clause-err : goal.returns-in_err-add_line-clause-err
returns-in_err-add_line-clause-err g c =
    let disk = g.F.Files.at c.args.files.now in
    let read = subst (λ items. AreLines c.args.bytes.now (map fields_of items)) (sym c.deref-line-items.ensures.value) c.in_ok-lines.ensures in
    let next : IsNext disk c.args.keys fields_of c.deref-line-items.result.now c.loop-before.before c.loop-before.registry c.line-item.result =
    record { few = c.loop-before-test.true; is = c.line-item.is; held = c.loop-before.invariant.held } in
    let refused = subst
    (λ disk. IsRefusedLine (fails_on g.F.Files.at g.F.Files.fails disk) disk c.loop-before.registry (c.loop-before.before + 1) (fields_of c.line-item.result)
    c.in_err-add_line.field-0.0)
    (fun_ext c.loop-before.invariant.same) c.in_err-add_line.ensures.err in
    let made = err_from_is_err_and c.from_residual-in_err-add_line.result c.from_residual-in_err-add_line.ensures.1 in
    rw (made.1, made.2) (
    line_fault disk c.args.keys (fails_on g.F.Files.at g.F.Files.fails disk) fields_of
    c.args.bytes.now c.deref-line-items.result.now c.loop-before.before c.loop-before.registry
    c.line-item.result
    c.in_err-add_line.field-0.0 c.requires read next refused
    )

pub returns-in_err-add_line-clause-same : goal.returns-in_err-add_line-clause-same
returns-in_err-add_line-clause-same g c = λ path. c.add_line.ensures.same path ∙ c.loop-before.invariant.same path

pub returns-clause-ok : goal.returns-clause-ok
returns-clause-ok g c =
    let disk = g.F.Files.at c.args.files.now in
    let items = c.deref-line-items.result.now in
    record {
      rows = map fields_of items;
      short = c.requires;
      lines = subst (λ items. AreLines c.args.bytes.now (map fields_of items)) (sym c.deref-line-items.ensures.value) c.in_ok-lines.ensures;
      held = subst (λ lines. AreTargets disk c.args.keys (map fields_of lines) c.loop-before.registry)
          (take_all c.loop-before.before items (omega arith)) c.loop-before.invariant.held;
    }

pub loop-before-preserved : goal.loop-before-preserved
loop-before-preserved g c =
    let disk = g.F.Files.at c.args.files.now in
    let next : IsNext disk c.args.keys fields_of c.deref-line-items.result.now c.loop-before.before c.loop-before.registry c.line-item.result =
    record { few = c.loop-before-test.true; is = c.line-item.is; held = c.loop-before.invariant.held } in
    let added = c.in_ok-add_line.ensures.ok in
    let target = subst (λ disk. IsTargetAt disk c.args.keys (fields_of c.line-item.result) added.0) (fun_ext c.loop-before.invariant.same) added.1 in
    record {
      held = subst (AreTargets disk c.args.keys (map fields_of (take (c.loop-before.before + 1) c.deref-line-items.result.now))) (sym added.2)
          (one_more disk c.args.keys fields_of c.deref-line-items.result.now c.loop-before.before c.loop-before.registry c.line-item.result added.0 next
          target);
      same = λ path. c.add_line.ensures.same path ∙ c.loop-before.invariant.same path;
    }
