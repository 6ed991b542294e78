use Rattle.std.proofs.Common.{eqb, arith, w8}
use Rattle.std.proofs.lemmas.Simd.{bitmask_splat, length-chunk}
use Rattle.std.specs.Simd.Lanes.{chunk}
use Rattle.kbart_rows.specs.Cells.{tab}
use Rattle.kbart_rows.proofs.tabs.tabs_of_16.Goals as goal

pub returns : goal.returns
returns c =
    let line = c.args.line.now in
    bitmask_splat w8 eqb (chunk c.args.place 16 line) 16 tab (length-chunk c.args.place 16 line c.requires) (omega arith)
