use Rattle.std.proofs.Common.{◌≡◌}
use Rattle.std.specs.List.{list_all}
use Rattle.form_urlencoded.specs.Form as form
use Rattle.source_queries.specs.Utf8 as spec
use Rattle.source_queries.proofs.utf8.are_utf8.Given as goal

-- what is left decides
abbrev pub invariant-loop-name : goal.invariant-loop-name
invariant-loop-name l =
    list_all spec.is_utf8_pair (form.parse l.name-iterator.input.now) ≡ list_all spec.is_utf8_pair (form.parse l.query)
