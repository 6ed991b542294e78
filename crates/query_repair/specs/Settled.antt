-- Queries that need no repair.
use Rattle.std.specs.Prelude.{◌≡◌, ℕ, ◌==◌, ◌||◌, ◌&&◌, not, Bool, true, false, List, [], ◌∷◌, All}
use Rattle.text_model.specs.Texts.{Text}
use Rattle.query_repair.specs.Pieces.{parts, cleaned, has_base}
use Rattle.query_repair.specs.Joining.{is_loose, belongs}
use Rattle.query_repair.specs.Repair.{semicolon, has_no_second_pair, separated}

-- no piece belongs to the one before it
abbrev pub are_apart_from : Text → List Text → Bool
are_apart_from first [] = true
are_apart_from first (second ∷ others) = not (belongs first second) && are_apart_from second others

abbrev pub are_apart : List Text → Bool
are_apart [] = true
are_apart (first ∷ others) = are_apart_from first others

-- no `;` would be separated, no part has marks or the query of a base URL, and none belongs to the one before it
pub record IsSettled (query : Text) : Type 0 where
  pub separate : has_no_second_pair (parts query) ≡ true → separated query ≡ query
  pub clean : All (λ part. cleaned part ≡ part) (parts query)
  pub closed : All (λ part. has_base part ≡ false) (parts query)
  pub apart : are_apart (parts query) ≡ true

-- `?` and `;`
abbrev pub is_mark : ℕ → Bool
is_mark b = b == 0x3f || b == semicolon

-- neither of these, and no text between two `&`s without `=`
pub record HasNoMarks (query : Text) : Type 0 where
  pub bytes : All (λ b. is_mark b ≡ false) query
  pub pairs : All (λ part. is_loose part ≡ false) (parts query)
