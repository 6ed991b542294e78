use Rattle.std.proofs.Common.{ℕ, ◌+◌, ◌≤◌, All, length, take, drop, sum_by, sym, ap, ◌∙◌, arith, if◌then◌else◌}
use Rattle.std.proofs.lemmas.Grind.{common_steps}
use Rattle.std.proofs.lemmas.List.Elements.{All-weaker, All-take, All-drop}
use Rattle.target_vars.specs.EnvValue.{IsWithin}
use Rattle.kev_read.specs.Pairs.{all_of}
use Rattle.row_laws.specs.Shadowing.{first_bytes}
use Rattle.row_scope.proofs.Pieces.{piece_lengths}
use Rattle.row_scope.proofs.ValueLemmas.{first_value_bytes}
use Rattle.row_scope.proofs.request_values.RequestValues.sums_of.Goals as goal

pub returns-then-is_list-clause-bytes : goal.returns-then-is_list-clause-bytes
returns-then-is_list-clause-bytes c =
    let request = c.args.self.now in
    let key = c.args.key.now in
    let found = c.values_of-first in
    let P = λ (at : ℕ × ℕ). at.0 + at.1 ≤ length request.values.buffer in
    let within : All P request.values.spans = All-weaker (IsWithin request.values) P (λ at w. w.inside) request.values.spans found.ensures.known.inside in
    let own = All-take P found.result.1 (drop found.result.0 request.values.spans) (All-drop P found.result.0 request.values.spans within) in
    c.bytes_of_spans.ensures.value
    ∙ sym (piece_lengths request.values.buffer (take found.result.1 (drop found.result.0 request.values.spans)) own)
    ∙ ap (sum_by length) (sym found.ensures.place.are)
    ∙ ap (λ list. if list then sum_by length (all_of request.pairs key) else first_bytes (all_of request.pairs key)) (sym c.if-is_list.true)

pub returns-then-is_list-clause-small : goal.returns-then-is_list-clause-small
returns-then-is_list-clause-small c = grind (arith, common_steps)

pub returns-else-is_list-clause-bytes : goal.returns-else-is_list-clause-bytes
returns-else-is_list-clause-bytes c =
    let request = c.args.self.now in
    let key = c.args.key.now in
    let found = c.values_of-first in
    let no = c.if-count-eq0.false in
    sym (first_value_bytes request key found.result.0 found.result.1 c.span.result found.ensures.place c.span.ensures.value (omega (arith, no))
    c.span.ensures.within.inside)
    ∙ ap (λ list. if list then sum_by length (all_of request.pairs key) else first_bytes (all_of request.pairs key)) (sym c.if-is_list.false)
