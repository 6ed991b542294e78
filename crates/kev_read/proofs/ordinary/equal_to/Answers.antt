use Rattle.std.proofs.Common.{eqb, map, replicate, sym, ap, ◌∙◌, w8}
use Rattle.std.proofs.lemmas.Simd.{tops_compared, zip2_splat}
use Rattle.std.specs.Simd.Lanes.{sel_l}
use Rattle.kev_read.proofs.OrdinaryLanes.{chosen}
use Rattle.kev_read.proofs.ordinary.equal_to.Goals as goal

pub returns : goal.returns
returns c =
    let v = c.args.lanes in
    let b = c.args.byte in
    let long = c.fits-lanes.0 in
    ap (λ ms. sel_l ms (replicate 16 255) (replicate 16 0)) (tops_compared w8 eqb v (replicate 16 b) ∙ zip2_splat eqb v 16 b long)
    ∙ (ap (λ n. sel_l (map (λ x. eqb x b) v) (replicate n 255) (replicate n 0)) (sym long) ∙ chosen (λ x. eqb x b) 255 0 v)
