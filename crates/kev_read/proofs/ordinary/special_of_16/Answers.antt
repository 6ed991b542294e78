use Rattle.std.proofs.Common.{◌≡◌, bit_or, length, map, ap, ◌∙◌, arith}
use Rattle.std.proofs.lemmas.List.{length-map}
use Rattle.std.proofs.lemmas.Simd.{length-chunk, map-map}
use Rattle.std.specs.Simd.Lanes.{chunk, mask_l, zip2}
use Rattle.memchr.proofs.lemmas.LaneLemmas.{is_set, top_bitmask}
use Rattle.kev_read.specs.Private.Ordinary.{special_lane}
use Rattle.kev_read.proofs.OrdinaryLanes.{special_lanes}
use Rattle.kev_read.proofs.ordinary.special_of_16.Goals as goal

pub returns : goal.returns
returns c =
    let lanes = chunk c.args.place 16 c.args.bytes.now in
    let separates = zip2 bit_or c.equal_to.result c.equal_to-2.result in
    let encodes = zip2 bit_or c.equal_to-3.result c.equal_to-4.result in
    let special = zip2 bit_or (zip2 bit_or separates encodes) lanes in
    let are : special ≡ map special_lane lanes =
    grind (arith, c.equal_to.ensures, c.equal_to-2.ensures, c.equal_to-3.ensures, c.equal_to-4.ensures, special_lanes) in
    let long : length special ≡ 16 = ap length are ∙ (length-map lanes special_lane ∙ length-chunk c.args.place 16 c.args.bytes.now c.requires) in
    top_bitmask special 16 long (omega arith) ∙ (ap (λ v. mask_l (map is_set v)) are ∙ ap mask_l (map-map is_set special_lane lanes))
