-- Where the head of a request ends.
use Rattle.std.specs.Prelude.{◌≡◌, ℕ, ◌<◌, List, true, false, take}
use Rattle.http_streams.specs.Closing.{is_closed}

-- the first empty line ends after that many of the bytes
pub record IsFirstClosedAt (bytes : List ℕ) (count : ℕ) : Type 0 where
  pub closed : is_closed (take count bytes) ≡ true
  pub open_before : (fewer : ℕ) → fewer < count → is_closed (take fewer bytes) ≡ false
