-- How long a decoded text is.
use Rattle.std.proofs.Common.{ℕ, zero, suc, ◌+◌, ◌*◌, ◌≤◌, ◌<◌, List, ◌++◌, length, take, drop, arith, length-append, length-drop}
use Rattle.std.proofs.lemmas.Grind.{common_steps}
use Rattle.std.proofs.Math.Logic.{⊎_elim}
use Rattle.std.proofs.lemmas.Bool.Decides.{eqb_tells}
use Rattle.std.proofs.lemmas.List.{length-take-le, length-map}
use Rattle.std.proofs.lemmas.Str.{utf8_valid_len_le}
use Rattle.std.specs.Str.Lossy.{utf8_valid_len, utf8_invalid_len, after_first_chunk, replacement_bytes, utf8_lossy_within, utf8_lossy, utf8_error_len}
use Rattle.percent_encoding.proofs.PercentLemmas.{length-percent_decode}
use Rattle.kev_read.specs.Pairs.{decoded}

-- one U+FFFD replaces at least one byte
invalid_len_positive : (bs : List ℕ) → 0 < length bs → 0 < utf8_invalid_len bs
unfolding utf8_error_len
invalid_len_positive bs some = grind (arith, common_steps)

-- a byte that is not UTF-8 becomes the three of U+FFFD
length-utf8_lossy_within-le : (k : ℕ) (bs : List ℕ) → length (utf8_lossy_within k bs) ≤ 3 * length bs
length-utf8_lossy_within-le zero bs = omega arith
length-utf8_lossy_within-le (suc k) bs =
    ⊎_elim (λ whole. rw whole.0 (omega arith))
    (λ cut.
    let n = utf8_valid_len bs in
    let rest = utf8_lossy_within k (after_first_chunk bs) in
    let later = length-utf8_lossy_within-le k (after_first_chunk bs) in
    let within = utf8_valid_len_le bs in
    let other = cut.1 in
    let invalid = invalid_len_positive (drop n bs) (omega (arith, length-drop n bs)) in
    rw cut.0 (omega (
      arith,
      length-append (take n bs) (replacement_bytes ++ rest),
      length-append replacement_bytes rest,
      length-take-le n bs within,
      length-drop (n + utf8_invalid_len (drop n bs)) bs,
    )))
    (eqb_tells (utf8_valid_len bs) (length bs))

pub length-decoded-le : (bs : List ℕ) → length (decoded bs) ≤ 3 * length bs
unfolding utf8_lossy
length-decoded-le bs = grind (arith, length-utf8_lossy_within-le, length-map, length-percent_decode)
