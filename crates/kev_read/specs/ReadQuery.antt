-- What a request keeps of the query that it was read from.
use Rattle.std.specs.Prelude.{ℕ, ◌*◌, ◌≤◌, List, length}
use Rattle.kev_read.specs.Pairs.{KeyValue, value_bytes}
use Rattle.kev_read.specs.declared.read.TheConstants.{MAX_PAIRS, MAX_QUERY_BYTES}

pub record ReadQuery : Type 0 where
  pub pairs : List KeyValue
  pub query_bytes : ℕ

-- A byte of the query makes at most three bytes of a value, since one that is not UTF-8 becomes U+FFFD.
pub record IsBounded (request : ReadQuery) : Type 0 where
  pub query_bytes : request.query_bytes ≤ MAX_QUERY_BYTES
  pub pairs : length request.pairs ≤ MAX_PAIRS
  pub values : value_bytes request.pairs ≤ 3 * request.query_bytes
