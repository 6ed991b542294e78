use Rattle.std.proofs.Common.{◌≡◌, ◌≤◌, false, length, sym, subst, ◌∙◌, arith}
use Rattle.kev_read.specs.Refusal.{states_other_version}
use Rattle.kev_read.specs.declared.read.TheConstants.{MAX_PAIRS}
use Rattle.source_requests.specs.Requests.{any_issn, any_pairs}
use Rattle.source_requests.proofs.Accepted.{any_accepted, led_few}
use Rattle.source_requests.proofs.requests.any_request.Goals as goal

pub request_of-requires-clause-few : goal.request_of-requires-clause-few
request_of-requires-clause-few c =
    let pairs = c.args.pairs.now in
    let is : c.deref.result.now ≡ any_pairs pairs = c.deref.ensures.value ∙ c.in_ok-list.ensures in
    subst (λ list. length list ≤ MAX_PAIRS) (sym is) (omega (arith, led_few any_issn pairs, c.requires.few))

pub request_of-requires-clause-version : goal.request_of-requires-clause-version
request_of-requires-clause-version c =
    let pairs = c.args.pairs.now in
    let is : c.deref.result.now ≡ any_pairs pairs = c.deref.ensures.value ∙ c.in_ok-list.ensures in
    subst (λ list. states_other_version list ≡ false) (sym is) (any_accepted pairs c.requires.version)
