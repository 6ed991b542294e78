use Rattle.std.proofs.Common.{◌≡◌, [], map}
use Rattle.form_urlencoded.specs.Form as form
use Rattle.source_queries.specs.Utf8 as spec
use Rattle.source_queries.proofs.forms.written.Given as goal

-- with what is left, the form is the whole
abbrev pub invariant-loop-name : goal.invariant-loop-name
invariant-loop-name l = record {
  prefix : l.form.prefix ≡ [];
  whole : form.extend_pairs l.form.form (map (spec.pair_in l.encoding) (form.raw_pairs l.name-iterator.input.now))
      ≡ form.extend_pairs [] (map (spec.pair_in l.encoding) (form.raw_pairs l.query));
}
