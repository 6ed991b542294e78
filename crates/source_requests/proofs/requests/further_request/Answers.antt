use Rattle.std.proofs.Common.{◌≡◌, ◌≤◌, false, length, ap, sym, subst, ◌∙◌, arith}
use Rattle.kev_read.specs.Refusal.{states_other_version}
use Rattle.kev_read.specs.declared.read.TheConstants.{MAX_PAIRS}
use Rattle.source_requests.specs.Requests.{further_pairs, led_by, number_pair}
use Rattle.source_requests.proofs.Accepted.{further_accepted, led_few}
use Rattle.source_requests.proofs.requests.further_request.Goals as goal

pub request_of-requires-clause-few : goal.request_of-requires-clause-few
request_of-requires-clause-few c =
    let number = c.args.number.now in
    let pairs = c.args.pairs.now in
    let is : c.deref.result.now ≡ further_pairs number pairs = c.deref.ensures.value ∙ c.in_ok-list.ensures
    ∙ ap (λ key. led_by (record { key = key; value = number }) pairs) c.number_key.ensures in
    subst (λ list. length list ≤ MAX_PAIRS) (sym is) (omega (arith, led_few (number_pair number) pairs, c.requires.few))

pub request_of-requires-clause-version : goal.request_of-requires-clause-version
request_of-requires-clause-version c =
    let number = c.args.number.now in
    let pairs = c.args.pairs.now in
    let is : c.deref.result.now ≡ further_pairs number pairs = c.deref.ensures.value ∙ c.in_ok-list.ensures
    ∙ ap (λ key. led_by (record { key = key; value = number }) pairs) c.number_key.ensures in
    subst (λ list. states_other_version list ≡ false) (sym is) (further_accepted number pairs c.requires.version)
