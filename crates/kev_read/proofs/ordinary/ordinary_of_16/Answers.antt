use Rattle.std.proofs.Common.{◌≡◌, not, get_or, sym, ◌∙◌, arith}
use Rattle.std.specs.List.{prefix_len}
use Rattle.std.specs.Simd.Lanes.{chunk}
use Rattle.std.proofs.lemmas.Simd.{none_from_empty_mask, run_in_chunk_le, run_in_chunk_fails}
use lib.Count.{count_trailing_zeros}
use Rattle.kev_read.specs.Private.Ordinary.{is_special}
use Rattle.kev_read.proofs.FirstLanes.{lowest_bit}
use Rattle.kev_read.proofs.OrdinaryLanes.{ordinary_from}
use Rattle.kev_read.proofs.ordinary.ordinary_of_16.Goals as goal

pub returns-then-mask-eq0-clause-ordinary : goal.returns-then-mask-eq0-clause-ordinary
returns-then-mask-eq0-clause-ordinary c k low high =
    let bytes = c.args.bytes.now in
    ordinary_from (get_or bytes k 0) (omega (arith, c.type_inv.bytes k))
    (none_from_empty_mask is_special bytes c.args.place 16 0 c.requires (sym c.special_of_16-mask.ensures ∙ c.if-mask-eq0.true) k low high)

-- the lowest bit is that of the first byte that is not ordinary
lowest : (c : goal.Else-mask-eq0) → count_trailing_zeros 64 c.special_of_16-mask.result
    ≡ prefix_len (λ x. not (is_special x)) (chunk c.args.place 16 c.args.bytes.now)
lowest c =
    lowest_bit is_special c.args.bytes.now c.args.place _ c.special_of_16-mask.ensures c.requires (omega (arith, c.if-mask-eq0.false))

pub returns-else-mask-eq0-clause-few : goal.returns-else-mask-eq0-clause-few
returns-else-mask-eq0-clause-few c = run_in_chunk_le is_special c.args.bytes.now c.args.place 16 _ 0 c.requires (lowest c)

pub returns-else-mask-eq0-clause-ordinary : goal.returns-else-mask-eq0-clause-ordinary
returns-else-mask-eq0-clause-ordinary c k low high =
    let bytes = c.args.bytes.now in
    ordinary_from (get_or bytes k 0) (omega (arith, c.type_inv.bytes k))
    (run_in_chunk_fails is_special bytes c.args.place 16 _ 0 c.requires (lowest c) k low high)
