-- How many bytes and members a request has.
use Rattle.std.specs.Prelude.{◌≡◌, ℕ, List, []}
use Rattle.text_model.specs.Texts.{Text}
use Rattle.environment_model.specs.Environment.{byte_count, member_count}
use Rattle.kev_read.specs.Pairs.{KeyValue, all_of}
use Rattle.kev_read.specs.Filling.{filled}

-- E and M of an environment of any pairs that have the same values under each key, if no list is declared
pub record AreSums (pairs : List KeyValue) (bytes members : ℕ) : Type 0 where
  pub reordered : List KeyValue
  pub same : (key : Text) → all_of reordered key ≡ all_of pairs key
  pub all_bytes : bytes ≡ byte_count (filled [] [] reordered)
  pub all_members : members ≡ member_count (filled [] [] reordered)
