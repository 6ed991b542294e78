-- Lines without the spaces and tabs at their ends.
use Rattle.std.proofs.Common.{◌≡◌, ℕ, zero, suc, ◌+◌, ◌-◌, ◌<◌, ◌≤◌, true, length, get_or, take, drop, reverse}
use Rattle.std.proofs.Common.{refl, ap, ◌∙◌, subst, arith}
use Rattle.std.specs.List.{prefix_len}
use Rattle.std.specs.Str.{IsUtf8, IsCharBoundary}
use Rattle.std.proofs.lemmas.Bool.Decides.{nat_tests}
use Rattle.std.proofs.lemmas.List.{get_or-reverse, length-drop, length-take-le, take_all}
use Rattle.std.proofs.lemmas.List.Sums.{prefix_len-le-length, prefix_len_passes, suffix_len-le-length}
use Rattle.std.proofs.lemmas.Str.{IsUtf8-drop, IsUtf8-take, IsCharBoundary-start, IsCharBoundary-end, IsCharBoundary-before_ascii, IsCharBoundary-after_ascii}
use Rattle.text_model.specs.Texts.{Text}
use Rattle.written_numbers.specs.Identifiers.{is_blank, blanks_before, blanks_after, unindented, trimmed}

-- ---- where a line may be cut

blank_ascii : (b : ℕ) → is_blank b ≡ true → b < 128
blank_ascii b h = grind (arith, nat_tests)

pub after_blanks : (line : Text) → IsUtf8 line → IsCharBoundary line (blanks_before line)
after_blanks line utf8 = by_count (blanks_before line) refl
  where
    by_count : (n : ℕ) → blanks_before line ≡ n → IsCharBoundary line n
    by_count zero e = IsCharBoundary-start line utf8
    by_count (suc n) e =
        let last : n < prefix_len is_blank line = omega (arith, e) in
        let within : n < length line = omega (arith, e, prefix_len-le-length is_blank line) in
        let next : n + 1 ≡ suc n = omega arith in
        subst (λ m. IsCharBoundary line m) next
        (IsCharBoundary-after_ascii line n utf8 within (blank_ascii (get_or line n 0) (prefix_len_passes is_blank line n 0 last)))

pub before_blanks : (line : Text) → IsUtf8 line → IsCharBoundary line (length line - blanks_after line)
before_blanks line utf8 = by_count (blanks_after line) refl
  where
    by_count : (n : ℕ) → blanks_after line ≡ n → IsCharBoundary line (length line - n)
    by_count zero e =
        let all : length line ≡ length line - 0 = omega arith in
        subst (λ m. IsCharBoundary line m) all (IsCharBoundary-end line)
    by_count (suc n) e =
        let last : n < prefix_len is_blank (reverse line) = omega (arith, e) in
        let within : n < length line = omega (arith, e, suffix_len-le-length is_blank line) in
        let at : get_or (reverse line) n 0 ≡ get_or line (length line - 1 - n) 0 = get_or-reverse line n 0 within in
        let place : length line - 1 - n ≡ length line - suc n = omega arith in
        let is : is_blank (get_or (reverse line) n 0) ≡ true = prefix_len_passes is_blank (reverse line) n 0 last in
        let ascii : get_or line (length line - suc n) 0 < 128 =
        blank_ascii _ (subst (λ m. is_blank (get_or line m 0) ≡ true) place (subst (λ b. is_blank b ≡ true) at is)) in
        IsCharBoundary-before_ascii line (length line - suc n) (omega (arith, within)) ascii

-- ---- what is left

pub trimmed_utf8 : (line : Text) → IsUtf8 line → IsUtf8 (trimmed line)
unfolding trimmed
trimmed_utf8 line utf8 =
    let inner = IsUtf8-drop line (blanks_before line) utf8 (after_blanks line utf8) in
    IsUtf8-take (unindented line) _ inner (before_blanks (unindented line) inner)

pub trimmed_short : (line : Text) → length (trimmed line) ≤ length line
unfolding trimmed
trimmed_short line =
    let inner = unindented line in
    omega (arith, length-take-le (length inner - blanks_after inner) inner (omega arith), length-drop (blanks_before line) line)

pub trimmed_same : (line : Text) → blanks_before line ≡ 0 → blanks_after line ≡ 0 → trimmed line ≡ line
unfolding trimmed
trimmed_same line before after =
    let inner : unindented line ≡ line = ap (λ n. drop n line) before in
    ap (λ t. take (length t - blanks_after t) t) inner ∙ take_all (length line - blanks_after line) line (omega (arith, after))
