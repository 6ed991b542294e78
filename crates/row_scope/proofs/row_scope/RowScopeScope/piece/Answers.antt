use Rattle.std.proofs.Common.{◌≡◌, ◌-◌, ◌≤◌, length, take, drop, subst, sym, ap, ◌∙◌, arith}
use Rattle.std.proofs.Math.Logic.{⊎_elim}
use Rattle.target_vars.specs.EnvValue.{IsWithin, piece_at}
use Rattle.row_scope.specs.RequestValues.{RequestValue}
use Rattle.row_scope.specs.RowValue.{RowValue}
use Rattle.row_scope.proofs.Pieces.{piece_after}
use Rattle.row_scope.proofs.row_scope.RowScopeScope.piece.Goals as goal

pub returns-else-end-seam : goal.returns-else-end-seam
returns-else-end-seam c =
    let r = c.self.inside in
    let values = r.target.now.request.values.buffer in
    let start = c.args.start in
    let end = c.args.end in
    let seam = c.size-seam.result in
    let size : seam ≡ length values =
    c.size-seam.ensures.value ∙ ap (λ (request : RequestValue). length request.values.buffer) c.request-request.ensures in
    let within = subst (λ (v : RowValue). IsWithin v.env (start, end - start)) (sym c.self.view_is) c.requires.within in
    let from : seam ≤ start =
    ⊎_elim (λ before. absurd (omega (arith, before, size, c.if-end-seam.false, c.requires.forward))) (λ after. omega (arith, after, size)) within.one_side in
    subst (λ (v : RowValue). take (end - seam - (start - seam)) (drop (start - seam) c.as_bytes.result.now) ≡ piece_at v.env.buffer (start, end - start))
    c.self.view_is
    (piece_after values r.line.now c.as_bytes.result.now seam start end c.as_bytes.ensures.value size from c.requires.forward)
