-- The route of bytes, with the head that was found or without one.
use Rattle.std.proofs.Common.{◌≡◌, ◌∙◌, ℕ, ◌<◌, Bool, false, List, length, subst, sym, ap, arith}
use Rattle.httparse.specs.Grammar.{ReadsRequest, RequestHead}
use Rattle.http_request.specs.declared.request.TheConstants.{MAX_FIELDS}
use Rattle.http_request.specs.Routes.{IsRouted, IsHeadOf, RouteValue, by_head, is_head_method, route_of, head_route, route_without_head, without_head}
use Rattle.http_request.specs.Host.{host_count}

pub route-by_head : (bytes : List ℕ) (head : RequestHead) (method target : List ℕ) (minor hosts : ℕ) (route : RouteValue) (without_body : Bool)
    → IsHeadOf bytes head → method ≡ head.method → target ≡ head.target → minor ≡ head.minor → hosts ≡ host_count head.fields
    → route ≡ route_of method target minor hosts → without_body ≡ is_head_method method → IsRouted bytes route without_body
route-by_head bytes head method target minor hosts route without_body is e_method e_target e_minor e_hosts e_expected e_only =
    let same : route ≡ head_route head =
    e_expected ∙ ap (λ (m : List ℕ). route_of m target minor hosts) e_method
    ∙ ap (λ (t : List ℕ). route_of head.method t minor hosts) e_target
    ∙ ap (λ (v : ℕ). route_of head.method head.target v hosts) e_minor
    ∙ ap (λ (n : ℕ). route_of head.method head.target head.minor n) e_hosts in
    let only : without_body ≡ is_head_method head.method = e_only ∙ ap is_head_method e_method in
    subst (λ (w : RouteValue). IsRouted bytes w without_body) (sym same)
    (subst (λ (b : Bool). IsRouted bytes (head_route head) b) (sym only) (by_head head is))

pub route-without_head : (bytes : List ℕ) (route : RouteValue)
    → ((head : RequestHead) (rest : List ℕ) → ReadsRequest bytes head rest → MAX_FIELDS < length head.fields)
    → route ≡ route_without_head bytes → IsRouted bytes route false
route-without_head bytes route none e =
    subst (λ (w : RouteValue). IsRouted bytes w false) (sym e) (without_head (λ head is. omega (arith, none head is.rest is.reads, is.fields)))
