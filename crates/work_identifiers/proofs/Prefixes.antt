-- How many bytes at the beginning of a text pass a test, one byte at a time.
use Rattle.std.proofs.Common.{◌≡◌, ℕ, ◌+◌, ◌<◌, Bool, true, false, length, get_or, drop, arith}
use Rattle.std.specs.List.{prefix_len}
use Rattle.std.proofs.lemmas.List.Sums.{prefix_len-drop_yes, prefix_len-drop_no}
use Rattle.text_model.specs.Texts.{Text}

pub prefix_more : (test : ℕ → Bool) (t : Text) (i : ℕ) → i < length t → test (get_or t i 0) ≡ true → i + prefix_len test (drop i t) ≡ prefix_len test t
    → (i + 1) + prefix_len test (drop (i + 1) t) ≡ prefix_len test t
prefix_more test t i h passes so_far = omega (arith, so_far, prefix_len-drop_yes test t i 0 h passes)

pub prefix_at : (test : ℕ → Bool) (t : Text) (i : ℕ) → i < length t → test (get_or t i 0) ≡ false → i + prefix_len test (drop i t) ≡ prefix_len test t
    → i ≡ prefix_len test t
prefix_at test t i h fails so_far = omega (arith, so_far, prefix_len-drop_no test t i 0 h fails)
