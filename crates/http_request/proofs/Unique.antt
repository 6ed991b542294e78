-- Bytes have one route, since they begin with at most one head.
use Rattle.std.proofs.Common.{◌≡◌, ◌++◌, ℕ, Bool, List, ap, refl}
use Rattle.httparse.proofs.GrammarLemmas.{ReadsRequest-append, request_unique}
use Rattle.httparse.specs.Grammar.{RequestHead}
use Rattle.http_request.specs.Routes.{IsRouted, IsHeadOf, RouteValue, by_head, is_head_method, head_route, without_head}

pub route-once : (bytes : List ℕ) (route other : RouteValue) (without_body other_only : Bool)
    → IsRouted bytes route without_body → IsRouted bytes other other_only → (route ≡ other) × (without_body ≡ other_only)
route-once bytes _ _ _ _ (by_head h i) (by_head k j) =
    let same = request_unique bytes h k i.rest j.rest i.reads j.reads in
    (ap head_route same.0, ap (λ (head : RequestHead). is_head_method head.method) same.0)
route-once bytes _ _ _ _ (by_head h i) (without_head none) = absurd (none h i)
route-once bytes _ _ _ _ (without_head none) (by_head k j) = absurd (none k j)
route-once bytes _ _ _ _ (without_head none) (without_head other) = (refl, refl)

pub head-stays : (bytes more : List ℕ) (head : RequestHead) → IsHeadOf bytes head → IsHeadOf (bytes ++ more) head
head-stays bytes more head is =
    record { rest = is.rest ++ more; reads = ReadsRequest-append bytes head is.rest more is.reads; fields = is.fields }
