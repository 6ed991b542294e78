-- A browser has the plain host of a web link.
use Rattle.std.proofs.Common.{◌≡◌, ◌≢◌, ℕ, ◌==◌, Bool, true, false, cond, [], ◌∷◌, ◌++◌, Some, refl, sym, ap, ◌∙◌, arith, codes, inl, inr}
use Rattle.std.proofs.lemmas.Grind.{common_steps}
use Rattle.std.specs.Char.{to_ascii_lowercase}
use Rattle.std.specs.List.{before_first, list_any}
use Rattle.std.proofs.lemmas.Bool.{and_from, and_parts, and_right, both_ways, eqb-true, false_from_ne_true, false≢true, or_cases}
use Rattle.text_model.specs.Texts.{Text, is_hexadecimal, is_reserved, is_unreserved}
use Rattle.text_model.specs.UriText.{IsUriText, nothing, and_character, and_triplet}
use Rattle.text_model.specs.Writing.{is_unreserved_or_reserved}
use Rattle.uri_text.specs.AnyCase.{begins_in_any_case}
use Rattle.menu.specs.WebLink.{is_web_link}
use Rattle.rule_lint.specs.HostStates.{slash}
use Rattle.rule_lint.specs.Host.{after_slashes, host_after, host_of}
use Rattle.lint_laws.specs.RowLinks.{IsPlainHost}
use Rattle.lint_laws.specs.Browsers.{after_browsers_slashes, after_colon, after_user, backslash, browsers_host, colon, ends_browsers_host, is_at_sign}
use Rattle.lint_laws.proofs.HostEnds.{first_part}
use Rattle.lint_laws.proofs.WebLinkLemmas.{slash_lowered}

-- ---- texts without a backslash

abbrev HasNone : Text → Type 0
HasNone [] = Unit {0}
HasNone (b ∷ t) = ((b == backslash) ≡ false) × HasNone t

none_append : (t u : Text) → HasNone t → HasNone u → HasNone (t ++ u)
none_append [] u h k = k
none_append (b ∷ t) u h k = (h.0, none_append t u h.1 k)

no_backslash : (test : ℕ → Bool) (b : ℕ) → test b ≡ true → test backslash ≡ false → (b == backslash) ≡ false
no_backslash test b is not_it = false_from_ne_true (b == backslash) (λ e. both_ways (test backslash) not_it (sym (ap test (eqb-true b backslash e)) ∙ is))

uri_has_none : (t : Text) → IsUriText t → HasNone t
unfolding is_unreserved is_reserved
uri_has_none _ nothing = tt
uri_has_none _ (and_character t b h is) = none_append t (b ∷ []) (uri_has_none t h) (no_backslash is_unreserved_or_reserved b is refl, tt)
uri_has_none _ (and_triplet t high low h is_high is_low) =
    none_append t (0x25 ∷ high ∷ low ∷ []) (uri_has_none t h)
    (refl, (no_backslash is_hexadecimal high is_high refl, (no_backslash is_hexadecimal low is_low refl, tt)))

-- ---- after the scheme

-- what follows the colon and the two slashes of a web link
record IsSplit (t : Text) : Type 0 where
  rest : Text
  slashes : after_slashes t ≡ Some rest
  scheme : after_colon t ≡ slash ∷ slash ∷ rest
  none : HasNone t → HasNone rest

-- a byte that is a letter in either case is another one than a byte that has no case
other_byte : (b c d : ℕ) → (to_ascii_lowercase b == to_ascii_lowercase c) ≡ true → (to_ascii_lowercase d == to_ascii_lowercase c) ≡ false → (b == d) ≡ false
other_byte b c d is other = grind (arith, common_steps)

colon_lowered : (b : ℕ) → (to_ascii_lowercase b == 0x3A) ≡ true → (b == colon) ≡ true
colon_lowered b e = grind (arith, common_steps)

-- the colon and the slashes come first
split_here : (t : Text) → begins_in_any_case t (codes "://") ≡ true → IsSplit t
split_here [] e = absurd (false≢true e)
split_here (a ∷ []) e = absurd (false≢true (sym (and_right (to_ascii_lowercase a == 0x3A) false refl) ∙ e))
split_here (a ∷ b ∷ []) e = grind (arith, common_steps)
split_here (a ∷ b ∷ c ∷ t) e =
    let first = and_parts (to_ascii_lowercase a == 0x3A) (begins_in_any_case (b ∷ c ∷ t) (codes "//")) e in
    let second = and_parts (to_ascii_lowercase b == 0x2F) (begins_in_any_case (c ∷ t) (codes "/")) first.1 in
    let third = and_parts (to_ascii_lowercase c == 0x2F) (begins_in_any_case t []) second.1 in
    let is_colon = colon_lowered a first.0 in
    let slashes = and_from (b == slash) (c == slash) (slash_lowered b second.0) (slash_lowered c third.0) in
    record {
      rest = t;
      slashes = grind (arith, common_steps);
      scheme = grind (arith, common_steps);
      none = λ h. h.1.1.1;
    }

split_later : (b : ℕ) (t : Text) → (b == slash) ≡ false → (b == colon) ≡ false → IsSplit t → IsSplit (b ∷ t)
split_later b t no_slash no_colon s = grind (arith, common_steps)

-- letters that are neither slashes nor colons, and then the colon and the slashes
abbrev AreLetters : Text → Type 0
AreLetters [] = Unit {0}
AreLetters (c ∷ front) =
    (((to_ascii_lowercase slash == to_ascii_lowercase c) ≡ false) × ((to_ascii_lowercase colon == to_ascii_lowercase c) ≡ false)) × AreLetters front

split_after : (front t : Text) → AreLetters front → begins_in_any_case t (front ++ codes "://") ≡ true → IsSplit t
split_after [] t letters e = split_here t e
split_after (c ∷ front) [] letters e = absurd (false≢true e)
split_after (c ∷ front) (b ∷ t) letters e =
    let both = and_parts (to_ascii_lowercase b == to_ascii_lowercase c) (begins_in_any_case t (front ++ codes "://")) e in
    split_later b t (other_byte b c slash both.0 letters.0.0) (other_byte b c colon both.0 letters.0.1) (split_after front t letters.1 both.1)

web_link_splits : (link : Text) → is_web_link link ≡ true → IsSplit link
web_link_splits link web = elim (or_cases (begins_in_any_case link (codes "http://")) (begins_in_any_case link (codes "https://")) web) [
  | inl plain ↦ split_after (codes "http") link ((refl, refl), ((refl, refl), ((refl, refl), ((refl, refl), tt)))) plain
  | inr secure ↦ split_after (codes "https") link ((refl, refl), ((refl, refl), ((refl, refl), ((refl, refl), ((refl, refl), tt))))) secure
]

-- ---- the host

-- up to the same byte
same_part : (t : Text) → HasNone t → before_first ends_browsers_host t ≡ first_part t
same_part [] h = refl
same_part (b ∷ t) h = grind (arith, common_steps, same_part t h.1)

-- no slash is skipped
no_more_slashes : (t : Text) → HasNone t → first_part t ≢ [] → after_browsers_slashes t ≡ t
no_more_slashes t h some = grind (arith, common_steps)

no_user_there : (t : Text) → list_any is_at_sign t ≡ false → after_user t ≡ t
no_user_there [] e = refl
no_user_there (b ∷ t) e = ap (λ (x : Bool). cond x (after_user t) (b ∷ t)) e

pub browser_agrees : (link : Text) → IsUriText link → is_web_link link ≡ true → IsPlainHost (host_of link) → browsers_host link ≡ host_of link
browser_agrees link uri web plain =
    let split = web_link_splits link web in
    let none = split.none (uri_has_none link uri) in
    let host : host_of link ≡ first_part split.rest = ap host_after split.slashes in
    let some : first_part split.rest ≢ [] = λ e. plain.some (host ∙ e) in
    let rest : after_browsers_slashes (after_colon link) ≡ split.rest =
    ap after_browsers_slashes split.scheme ∙ no_more_slashes split.rest none some in
    ap (λ (t : Text). after_user (before_first ends_browsers_host t)) rest
    ∙ (ap after_user (same_part split.rest none ∙ sym host) ∙ no_user_there (host_of link) plain.no_user)
