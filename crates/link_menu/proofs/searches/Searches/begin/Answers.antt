use Rattle.std.proofs.Common.{◌≡◌, ◌<◌, List, Some, length, slice_get, refl, subst, sym, arith}
use Rattle.std.specs.Prelude.{MatchOption}
use Rattle.std.specs.Option.{IsSomeAnd}
use Rattle.std.proofs.lemmas.Option.{slice_get_read}
use Rattle.std.proofs.lemmas.Slice.Zip.{AllZip-left, AllZip-long}
use Rattle.registry.specs.Names.{AreNamesOf}
use Rattle.text_model.specs.Texts.{Text}
use Rattle.link_menu.proofs.searches.Searches.begin.Goals as goal

pub bounds-names-len : goal.bounds-names-len
bounds-names-len c =
    let same = AllZip-long (AreNamesOf c.args.numbered.now.names) c.args.targets.now c.args.names.now c.requires.names in
    omega (arith, same, c.len.ensures, c.loop-target.invariant.many, c.loop-target-test.true)

pub add-requires-clause-names : goal.add-requires-clause-names
add-requires-clause-names c =
    let numbered = c.args.numbered.now.names in
    let targets = c.args.targets.now in
    let all = c.args.names.now in
    let k = c.loop-target.target-index in
    let target = c.target-item.result in
    let names = c.index-names-len.result in
    let at : c.len.result ≡ k = omega (arith, c.len.ensures, c.loop-target.invariant.many) in
    let same = AllZip-long (AreNamesOf numbered) targets all c.requires.names in
    let its_target : slice_get targets k ≡ Some target = slice_get_read targets (length targets) k target refl c.loop-target-test.true c.target-item.is in
    let inside : c.len.result < length all = omega (arith, same, at, c.loop-target-test.true) in
    let its_names : slice_get all k ≡ Some names =
    subst (λ i. slice_get all i ≡ Some names) at (slice_get_read all (length all) c.len.result names refl inside c.index-names-len.is) in
    let each = AllZip-left (AreNamesOf numbered) targets all c.requires.names k in
    let some = subst (λ o. MatchOption o (Unit {0}) (λ t. IsSomeAnd (slice_get all k) (AreNamesOf numbered t))) its_target each in
    let both : AreNamesOf numbered target names = subst (λ o. IsSomeAnd o (AreNamesOf numbered target)) its_names some in
    subst (λ (ns : List Text). AreNamesOf ns target names) (sym c.loop-target.invariant.numbered) both
