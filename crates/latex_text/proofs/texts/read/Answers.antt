use Rattle.std.proofs.Common.{◌≡◌, ◌∙◌, ◌-◌, sym, ap, take, length, arith}
use Rattle.std.proofs.lemmas.List.{length-take-le, take-take}
use Rattle.latex_text.specs.declared.places.Place.TheVariants.{Start}
use Rattle.latex_text.proofs.PlacesOf.{length-places, place-before}
use Rattle.latex_text.proofs.Reading.{last_read}
use Rattle.latex_text.proofs.texts.read.Goals as goal

pub index-requires : goal.index-requires
index-requires c =
    let rest = c.loop-rest.rest.now in
    let count = length-take-le (length rest - 1) rest (omega arith) in
    omega (
      arith,
      count,
      c.in-len1-up.len_at_least,
      length-places Start c.args.text.now,
      c.loop-rest.invariant.within,
      ap length c.in_ok-places.ensures,
    )

pub loop-rest-preserved : goal.loop-rest-preserved
loop-rest-preserved c =
    let inv = c.loop-rest.invariant in
    let rest = c.loop-rest.rest.now in
    let k = length rest - 1 in
    let some = c.in-len1-up.len_at_least in
    let text = c.args.text.now in
    let place = place-before text rest c.in_ok-places.places.items c.index.result.now c.in_ok-places.ensures inv.is inv.within some c.index.ensures in
    let count = length-take-le k rest (omega arith) in
    record {
      same = last_read rest c.loop-rest.read.items c.in_ok-read-2.read.items c.index.result.now some place c.in_ok-read-2.ensures ∙ inv.same;
      is = ap (take k) inv.is ∙ take-take k (length rest) text (omega arith) ∙ ap (λ n. take n text) (sym count);
      within = omega (arith, count, inv.within);
    }
