-- A peer that sends bytes in some pieces: what is read of them, and what the peer gets.
use Rattle.std.specs.Prelude.{◌≡◌, ◌↔◌, ℕ, List, [], Ok, Some, false}
use Rattle.menu_source.specs.Menus.{Menus}
use Rattle.http_streams.specs.Closing.{is_closed}
use Rattle.http_streams.specs.HeadReading.{IsReadWhole}
use Rattle.http_streams.specs.Streams.{InputState, OutputState}
use Rattle.http_streams.specs.declared.read.TheConstants.{MAX_HEAD_BYTES}
use Rattle.http_request.specs.HeadEnd.{IsFirstClosedAt}
use Rattle.http_exchange.specs.Exchange.{IsExchange}
use Rattle.http_exchange.specs.declared.exchange.Served.TheVariants.{Nothing, Replied}

-- of a peer that sends these bytes and no others, a head was read as far as these, whatever the pieces
pub record IsReadOf (sent bytes : List ℕ) : Type 0 where
  pub first : InputState
  pub last : InputState
  pub peer : first.left ≡ Some sent
  pub read : IsReadWhole MAX_HEAD_BYTES first bytes last

-- the first empty line ends at the same place; without one, both have all that was sent, or as many bytes as may be read
pub record EndAlike (bytes others : List ℕ) : Type 0 where
  pub closed : (count : ℕ) → IsFirstClosedAt bytes count ↔ IsFirstClosedAt others count
  pub unclosed : is_closed bytes ≡ false → bytes ≡ others

-- a peer that sends these bytes, and to which nothing was written before, gets exactly this reply, with this status
pub record Gets (menus : Menus) (sent : List ℕ) (status : ℕ) (reply : List ℕ) : Type 0 where
  pub first : InputState
  pub last : InputState
  pub before : OutputState
  pub after : OutputState
  pub peer : first.left ≡ Some sent
  pub blank : before.written ≡ Some []
  pub exchange : IsExchange menus first before (Ok (Replied status)) last after
  pub written : after.written ≡ Some reply

-- a peer that sends these bytes gets nothing
pub record GetsNothing (menus : Menus) (sent : List ℕ) : Type 0 where
  pub first : InputState
  pub last : InputState
  pub before : OutputState
  pub after : OutputState
  pub peer : first.left ≡ Some sent
  pub exchange : IsExchange menus first before (Ok Nothing) last after
