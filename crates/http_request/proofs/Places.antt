-- The first byte that passes a test.
use Rattle.std.proofs.Common.{◌≡◌, ℕ, ◌+◌, ◌≤◌, Bool, List, [], length, None, sym, arith}
use Rattle.std.specs.Prelude.{position}
use Rattle.std.specs.List.{position_or_len, before_first, after_first}
use Rattle.std.proofs.lemmas.List.{take_all}
use Rattle.std.proofs.Math.ListN.{drop_of_length-le}
use Rattle.text_model.proofs.Lists.{position-none}

pub before-none : (test : ℕ → Bool) (xs : List ℕ) → position test xs ≡ None → xs ≡ before_first test xs
before-none test xs none = sym (take_all (position_or_len test xs) xs (position-none test xs none))

pub after-none : (test : ℕ → Bool) (xs : List ℕ) → position test xs ≡ None → [] ≡ after_first test xs
after-none test xs none = let far : length xs ≤ position_or_len test xs + 1 = omega (arith, position-none test xs none) in sym (drop_of_length-le xs far)
