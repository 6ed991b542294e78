-- Peers that send a few bytes: what is read of them, and what they get. The premises of the law `pieces_do_not_matter` are met here, and its conclusions are
-- computed.
use Rattle.std.proofs.Common.{◌≡◌, ◌<◌, ℕ, zero, suc, inl, inr, false, List, [], Some, None, length, take, refl, ap, arith, codes}
use Rattle.std.specs.Fmt.{digits}
use Rattle.std.proofs.lemmas.List.{length-append}
use Rattle.httparse.specs.Grammar.{RequestHead, print_request}
use Rattle.menu_source.specs.Menus.{Menus}
use Rattle.http_streams.specs.Closing.{is_closed}
use Rattle.http_streams.specs.Streams.{InputState, OutputState, raised}
use Rattle.http_request.specs.HeadEnd.{IsFirstClosedAt}
use Rattle.http_request.specs.Routes.{BadRequest, IsHeadOf, IsRouted, without_head}
use Rattle.http_exchange.specs.Exchange.{front, request}
use Rattle.http_exchange.specs.Replies.{plain, printed}
use Rattle.reply_laws.specs.Peers.{Gets, IsReadOf}

-- a peer with these bytes left, of which that many were read
abbrev peer : List ℕ → ℕ → InputState
peer left taken = record { left = Some left; taken = taken; failures = 0; wait = None }

-- ---- two readings end at the same place

abbrev sent : List ℕ
sent = codes "a\n\nb"

-- the last byte came later
read_in_pieces : IsReadOf sent (codes "a\n\n")
unfolding raised
read_in_pieces =
    record {
      first = peer sent 0;
      last = peer (codes "b") 3;
      peer = refl;
      read = record { read = record { left = refl; taken = refl; failures = refl; wait = refl }; limit = omega arith; stopped = inl refl };
    }

read_at_once : IsReadOf sent sent
unfolding raised
read_at_once =
    record {
      first = peer sent 0;
      last = peer [] 4;
      peer = refl;
      read = record { read = record { left = refl; taken = refl; failures = refl; wait = refl }; limit = omega arith; stopped = inl refl };
    }

closed_in_pieces : IsFirstClosedAt (codes "a\n\n") 3
closed_in_pieces = record { closed = refl; open_before = λ fewer below. before fewer below }
  where
    before : (fewer : ℕ) → fewer < 3 → is_closed (take fewer (codes "a\n\n")) ≡ false
    before zero below = refl
    before (suc zero) below = refl
    before (suc (suc zero)) below = refl
    before (suc (suc (suc n))) below = absurd (omega (arith, below))

closed_at_once : IsFirstClosedAt sent 3
closed_at_once = record { closed = refl; open_before = λ fewer below. before fewer below }
  where
    before : (fewer : ℕ) → fewer < 3 → is_closed (take fewer sent) ≡ false
    before zero below = refl
    before (suc zero) below = refl
    before (suc (suc zero)) below = refl
    before (suc (suc (suc n))) below = absurd (omega (arith, below))

-- ---- a reply

no_head : (head : RequestHead) → IsHeadOf (codes "x") head → ⊥
unfolding print_request
no_head head h = omega (arith, simp length-append at (ap length h.reads.1))

bad_request : IsRouted (codes "x") BadRequest false
bad_request = without_head no_head

abbrev reply : List ℕ
reply = printed (plain 400 (codes "bad request\n")) false

bytes_of_the_reply : reply
    ≡ codes "HTTP/1.1 400 Bad Request\r\nContent-Type: text/plain; charset=utf-8\r\nContent-Length: 12\r\nConnection: close\r\n\r\nbad request\n"
unfolding digits
bytes_of_the_reply = refl

abbrev output : List ℕ → ℕ → OutputState
output written sent = record { written = Some written; sent = sent; failures = 0; wait = None }

gets_the_reply : (menus : Menus) → Gets menus (codes "x") 400 reply
unfolding raised digits
gets_the_reply menus =
    record {
      first = peer (codes "x") 0;
      last = peer [] 1;
      before = output [] 0;
      after = output reply 120;
      peer = refl;
      blank = refl;
      exchange = (
        reply,
        request (codes "x") 400 reply
            (record { read = record { left = refl; taken = refl; failures = refl; wait = refl }; limit = omega arith; stopped = inr (inr refl) })
            (omega arith) (front BadRequest false (plain 400 (codes "bad request\n")) bad_request refl),
        record { written = refl; sent = refl; failures = refl; wait = refl },
      );
      written = refl;
    }
