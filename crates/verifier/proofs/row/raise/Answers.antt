use Rattle.std.proofs.Common.{◌+◌, sym, ◌∙◌, arith}
use Rattle.verifier.proofs.RaisedRows.{Raised, raise_up, raise_keep}
use Rattle.verifier.proofs.row.raise.Goals as goal
use Rattle.verifier.proofs.row.raise.Goals.{then-not-is_below, else-not-is_below}

pub loop-r-preserved : goal.loop-r-preserved
loop-r-preserved c =
    let olds = c.args.kinds.now in
    let others = c.args.others.now in
    let ks = c.loop-r.kinds in
    let r = c.loop-r.r in
    let h : Raised olds others ks r c.loop-r.rose =
    record { joined = c.loop-r.invariant.joined; rest = c.loop-r.invariant.rest; rises = c.loop-r.invariant.rises } in
    let x : Raised olds others c.if-not-is_below.kinds (r + 1) c.if-not-is_below.rose = elim c.if-not-is_below.branch [
      | then-not-is_below w ↦ raise_up olds others ks c.if-not-is_below.kinds r w.join.result c.loop-r.rose c.if-not-is_below.rose h (omega arith)
          (sym c.is_below.ensures ∙ w.if-not-is_below.true) w.join.ensures w.kinds-is w.rose-is
      | else-not-is_below w ↦ raise_keep olds others ks c.if-not-is_below.kinds r c.loop-r.rose c.if-not-is_below.rose h
          (sym c.is_below.ensures ∙ w.if-not-is_below.false) w.kinds-is w.rose-is
    ] in
    record { joined = x.joined; rest = x.rest; rises = x.rises }
