-- A text that has no spaces at its ends.
use Rattle.std.proofs.Common.{◌≡◌, ℕ, ◌-◌, ◌<◌, false, length, get_or, take, drop, reverse, ap, ◌∙◌, arith}
use Rattle.std.specs.Char.{is_ascii_whitespace}
use Rattle.std.specs.List.{All, prefix_len, suffix_len}
use Rattle.std.proofs.lemmas.List.{take_all, get_or-reverse}
use Rattle.std.proofs.lemmas.List.Elements.{All-get_or}
use Rattle.std.proofs.lemmas.List.Sums.{prefix_len_is}
use Rattle.text_model.specs.Texts.{Text}
use Rattle.publication_dates.specs.Dates.{trimmed}

pub trimmed_whole : (t : Text) → 0 < length t → All (λ b. is_ascii_whitespace b ≡ false) t → trimmed t ≡ t
trimmed_whole t some all =
    let P : ℕ → Type 0 = λ b. is_ascii_whitespace b ≡ false in
    let first : is_ascii_whitespace (get_or t 0 0) ≡ false = All-get_or P t 0 0 some all in
    let last : is_ascii_whitespace (get_or t (length t - 1 - 0) 0) ≡ false = All-get_or P t (length t - 1 - 0) 0 (omega arith) all in
    let front : prefix_len is_ascii_whitespace t ≡ 0 = prefix_len_is is_ascii_whitespace t 0 0 (omega arith) (λ k h. absurd (omega arith)) (λ h. first) in
    let back : suffix_len is_ascii_whitespace t ≡ 0 =
    prefix_len_is is_ascii_whitespace (reverse t) 0 0 (omega arith) (λ k h. absurd (omega arith))
    (λ h. ap is_ascii_whitespace (get_or-reverse t 0 0 some) ∙ last) in
    ap (λ n. let s = drop n t in take (length s - suffix_len is_ascii_whitespace s) s) front
    ∙ ap (λ n. take (length t - n) t) back
    ∙ take_all (length t - 0) t (omega arith)
