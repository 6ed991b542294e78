-- The reply if an allocation failed, written out.
use Rattle.std.proofs.Common.{◌≡◌, codes, refl}
use Rattle.std.specs.Fmt.{digits}
use Rattle.http_exchange.specs.Replies.{head_of, unavailable}

pub unavailable-head : codes "HTTP/1.1 503 Service Unavailable\r\nContent-Type: text/plain; charset=utf-8\r\nContent-Length: 14\r\nConnection: close\r\n\r\n"
    ≡ head_of unavailable
unfolding digits
unavailable-head = refl
