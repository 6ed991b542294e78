-- The values of pairs as members of lists that have the names of the keys.
use Rattle.std.specs.Prelude.{◌≡◌, ℕ, ◌+◌, ◌*◌, ◌≤◌, List, [], All, fold, length, map}
use Rattle.text_model.specs.Texts.{Text}
use Rattle.environment_model.specs.Environment.{Environment, with_member}
use Rattle.target_vars.specs.EnvValue.{piece_at}
use Rattle.kev_read.specs.Pairs.{KeyValue}
use Rattle.kev_read.specs.Private.KeyOrder.{IsKeyOrder, pairs_at}
use Rattle.kev_read.specs.declared.read.TheConstants.{MAX_PAIRS, MAX_QUERY_BYTES}

-- the environment after a pair's value
abbrev pub gather_one : Environment → KeyValue → Environment
gather_one env pair = with_member env pair.key pair.value

-- the environment of the values of all pairs
abbrev pub gathered : List KeyValue → Environment
gathered pairs = fold gather_one [] pairs

-- each span is that of a value in the text, in the order of the pairs
pub record AreSpans (text : Text) (spans : List (ℕ × ℕ)) (pairs : List KeyValue) : Type 0 where
  pub inside : All (λ at. at.0 + at.1 ≤ length text) spans
  pub are : map (piece_at text) spans ≡ map (λ pair. pair.value) pairs

-- the text and the spans are those of the values of all pairs, in the order of their keys
pub record AreKeyValues (pairs : List KeyValue) (order : List ℕ) (text : Text) (spans : List (ℕ × ℕ)) : Type 0 where
  pub ordered : IsKeyOrder pairs order
  pub few : length pairs ≤ MAX_PAIRS
  pub short : length text ≤ 3 * MAX_QUERY_BYTES
  pub values : AreSpans text spans (pairs_at pairs order)
