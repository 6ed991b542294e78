use Rattle.std.proofs.Common.{◌≡◌, Some, ap, sym, ◌∙◌}
use Rattle.journal_references.specs.References.{Reference}
use Rattle.openurl_reading.specs.DublinCore.{core_reference}
use Rattle.openurl_reading.proofs.CoreParts.{parts_in_order}
use Rattle.openurl_reading.proofs.dublin_core.copy_parts.Goals as goal

pub returns : goal.returns
returns c =
    let r = c.found.inside in
    let found : Reference = record { name = r.name; volume = r.volume; issue = r.issue; pages = r.pages; year = r.year } in
    let is : core_reference c.args.pairs ≡ Some found = sym c.in_ok-found.ensures ∙ c.in-Some.is ∙ ap Some (sym c.found.view_is) in
    parts_in_order c.args.pairs c.in_ok-pairs.pairs c.in_ok-pairs-2.pairs c.in_ok-pairs-3.pairs c.in_ok-pairs-4.pairs found is
    c.in_ok-pairs.ensures c.in_ok-pairs-2.ensures c.in_ok-pairs-3.ensures c.in_ok-pairs-4.ensures
