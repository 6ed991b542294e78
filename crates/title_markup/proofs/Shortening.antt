-- What is left of a text without the markup with which it ends.
use Rattle.std.proofs.Common.{◌≡◌, ℕ, ◌+◌, ◌-◌, ◌<◌, ◌≤◌, ◌⊎◌, inl, inr, [], ◌∷◌, ◌++◌, Bool, true, false, cond, Option, Some, None, length, get_or, take}
use Rattle.std.proofs.Common.{refl, sym, ap, ◌∙◌, subst, arith}
use Rattle.std.specs.Prelude.{◌==◌, encode_utf8}
use Rattle.std.specs.Option.{option_and_then, option_map}
use Rattle.std.specs.Str.{IsUtf8}
use Rattle.std.proofs.lemmas.Bool.{eqb-true, cases_lt, or_from, ne_eqb, or_parts}
use Rattle.std.proofs.lemmas.List.{length-take, length-take-le, length-append, take-take, take-append-le, get_or-take, get_or-append_right, append-nil}
use Rattle.std.proofs.lemmas.Option.{same_Some, cond_some}
use Rattle.std.proofs.lemmas.Str.{IsUtf8-nil, IsUtf8-append, IsUtf8-encode, length-encode, len_utf8_ascii, inside_one}
use Rattle.text_model.specs.Texts.{Text}
use Rattle.title_markup.specs.declared.references.Reference.{Reference}
use Rattle.title_markup.specs.Endings.{opening, closing, ampersand, semicolon, is_closing, last_byte, last_bytes, from_last, or_other, has}
use Rattle.title_markup.specs.Tags.{is_tag, tag_of, tag_length}
use Rattle.title_markup.specs.References.{character_of, body_of, reference_of, reference_ending}
use Rattle.title_markup.specs.Titles.{before_reference, shortened}
use Rattle.title_markup.proofs.TextEnds.{EndsFrom, ends_from, cut_utf8, AreCut, none_from, has_not_after}
use Rattle.title_markup.proofs.Denoted.{IsDenoted, denoted}

-- ---- the characters that are put in

-- a byte of a character of several bytes is not ASCII
pub high : (c k : ℕ) → k < length (encode_utf8 c) → 1 < length (encode_utf8 c) → 128 ≤ get_or (encode_utf8 c) k 0
high c k h several = by_size (cases_lt (get_or (encode_utf8 c) k 0) 128)
  where
    by_size : (get_or (encode_utf8 c) k 0 < 128) ⊎ (128 ≤ get_or (encode_utf8 c) k 0) → 128 ≤ get_or (encode_utf8 c) k 0
    by_size (inr is) = is
    by_size (inl low) =
        let same : c ≡ get_or (encode_utf8 c) k 0 = inside_one c [] (encode_utf8 c) k (sym (append-nil (encode_utf8 c))) h low in
        let ascii : c < 128 = omega (arith, same, low) in
        let one : length (encode_utf8 c) ≡ 1 = length-encode c ∙ len_utf8_ascii c ascii in
        absurd (omega (arith, one, several))

pub high_quiet : (b : ℕ) → 128 ≤ b → is_closing b ≡ false
high_quiet b h = or_from (b == closing) (b == semicolon) (ne_eqb b closing (λ e. omega (arith, e))) (ne_eqb b semicolon (λ e. omega (arith, e)))

-- ---- a text with a character in the place of its end

-- the character has fewer bytes than what it replaces; it may be none
pub record IsReplaced (t u : Text) : Type 0 where
  pub at : ℕ
  pub within : at < length t
  pub added : Text
  pub is : u ≡ take at t ++ added
  pub shorter : at + length added < length t
  pub first : get_or t at 0 < 128
  pub last : last_byte t < 128
  pub utf8 : IsUtf8 added
  pub quiet : (k : ℕ) → k < length added → 1 < length added → is_closing (get_or added k 0) ≡ false
  pub marked : (has opening t ≡ false) → (has ampersand t ≡ false) → ⊥

found_marks : (mark n : ℕ) (t s : Text) → from_last mark (last_bytes n t) ≡ Some s → has mark t ≡ false → ⊥
found_marks mark n t s h free =
    let none : from_last mark (last_bytes n t) ≡ None = none_from mark (last_bytes n t) (has_not_after mark (length t - n) t free) in
    let wrong : None ≡ Some s = sym none ∙ h in
    cc

tag_replaced : (t tag : Text) (n : ℕ) → from_last opening (last_bytes 224 t) ≡ Some tag → tag_of tag ≡ Some n → (last_byte t == closing) ≡ true
    → IsReplaced t (take (length t - n) t)
tag_replaced t tag n h is last =
    let from : EndsFrom opening t tag = ends_from opening 224 t tag h in
    let size : length tag ≡ n = (cond_some (is_tag tag) (length tag) n is).1 in
    let all = from.size in
    let within = from.within in
    let at : length t - n ≡ from.at = omega (arith, all, size) in
    record {
      at = from.at;
      within = within;
      added = [];
      is = ap (λ k. take k t) at ∙ sym (append-nil (take from.at t));
      shorter = omega (arith, within);
      first = subst (λ b. b < 128) (sym from.first) (omega arith);
      last = subst (λ b. b < 128) (sym (eqb-true (last_byte t) closing last)) (omega arith);
      utf8 = IsUtf8-nil;
      quiet = λ k none. absurd (omega (arith, none));
      marked = λ free _. found_marks opening 224 t tag h free;
    }

tag_ends : (t : Text) (n : ℕ) → tag_length t ≡ Some n → IsReplaced t (take (length t - n) t)
unfolding tag_length
tag_ends t n h = by_last (last_byte t == closing) refl h
  where
    by_tag : (o : Option Text) → from_last opening (last_bytes 224 t) ≡ o → (last_byte t == closing) ≡ true
        → option_and_then tag_of o ≡ Some n → IsReplaced t (take (length t - n) t)
    by_tag None e last g = cc
    by_tag (Some tag) e last g = tag_replaced t tag n e g last

    by_last : (b : Bool) → (last_byte t == closing) ≡ b
        → cond b (option_and_then tag_of (from_last opening (last_bytes 224 t))) None ≡ Some n → IsReplaced t (take (length t - n) t)
    by_last true e g = by_tag (from_last opening (last_bytes 224 t)) refl e g
    by_last false e g = cc

-- ---- a reference

body_size : (s : Text) (c : ℕ) → character_of (body_of s) ≡ Some c → length (body_of s) + 2 ≡ length s
body_size [] c h = cc
body_size (b ∷ []) c h = cc
body_size (b ∷ d ∷ t) c h =
    let body = length-take (length (d ∷ t) - 1) (d ∷ t) in omega (arith, body)

reference_replaced : (t s : Text) (c : ℕ) → from_last ampersand (last_bytes 10 t) ≡ Some s → character_of (body_of s) ≡ Some c
    → (last_byte t == semicolon) ≡ true → IsReplaced t (take (length t - length s) t ++ encode_utf8 c)
reference_replaced t s c h is last =
    let from : EndsFrom ampersand t s = ends_from ampersand 10 t s h in
    let all = from.size in
    let within = from.within in
    let at : length t - length s ≡ from.at = omega (arith, all) in
    let denotes : IsDenoted (length (body_of s) + 2) c = denoted (body_of s) c is in
    let short = denotes.short in
    let body : length (body_of s) + 2 ≡ length s = body_size s c is in
    record {
      at = from.at;
      within = within;
      added = encode_utf8 c;
      is = ap (λ k. take k t ++ encode_utf8 c) at;
      shorter = omega (arith, short, body, all);
      first = subst (λ b. b < 128) (sym from.first) (omega arith);
      last = subst (λ b. b < 128) (sym (eqb-true (last_byte t) semicolon last)) (omega arith);
      utf8 = IsUtf8-encode c denotes.scalar;
      quiet = λ k inside several. high_quiet (get_or (encode_utf8 c) k 0) (high c k inside several);
      marked = λ _ free. found_marks ampersand 10 t s h free;
    }

reference_ends : (t : Text) (r : Reference) → reference_ending t ≡ Some r → IsReplaced t (take (length t - r.len) t ++ encode_utf8 r.character)
unfolding reference_ending
reference_ends t r h = by_last (last_byte t == semicolon) refl h
  where
    by_character : (s : Text) (o : Option ℕ) → character_of (body_of s) ≡ o → from_last ampersand (last_bytes 10 t) ≡ Some s
        → (last_byte t == semicolon) ≡ true
        → ◌≡◌ {A = Option Reference} (option_map (λ c. record { len = length s; character = c }) o) (Some r)
        → IsReplaced t (take (length t - r.len) t ++ encode_utf8 r.character)
    by_character s None e from last g = cc
    by_character s (Some c) e from last g =
        let made : Reference = record { len = length s; character = c } in
        subst (λ (q : Reference). IsReplaced t (take (length t - q.len) t ++ encode_utf8 q.character)) (same_Some made r g)
        (reference_replaced t s c from e last)

    by_reference : (o : Option Text) → from_last ampersand (last_bytes 10 t) ≡ o → (last_byte t == semicolon) ≡ true
        → option_and_then reference_of o ≡ Some r → IsReplaced t (take (length t - r.len) t ++ encode_utf8 r.character)
    by_reference None e last g = cc
    by_reference (Some s) e last g = by_character s (character_of (body_of s)) refl e last g

    by_last : (b : Bool) → (last_byte t == semicolon) ≡ b
        → cond b (option_and_then reference_of (from_last ampersand (last_bytes 10 t))) None ≡ Some r
        → IsReplaced t (take (length t - r.len) t ++ encode_utf8 r.character)
    by_last true e g = by_reference (from_last ampersand (last_bytes 10 t)) refl e g
    by_last false e g = cc

one_replaced : (t u : Text) → shortened t ≡ Some u → IsReplaced t u
unfolding shortened
one_replaced t u h = by_tag (tag_length t) refl h
  where
    by_reference : (o : Option Reference) → reference_ending t ≡ o
        → option_map (λ (r : Reference). take (length t - r.len) t ++ encode_utf8 r.character) o ≡ Some u → IsReplaced t u
    by_reference None e g = cc
    by_reference (Some r) e g =
        subst (IsReplaced t) (same_Some (take (length t - r.len) t ++ encode_utf8 r.character) u g) (reference_ends t r e)

    by_tag : (o : Option ℕ) → tag_length t ≡ o → or_other (option_map (λ n. take (length t - n) t) o) (before_reference t) ≡ Some u
        → IsReplaced t u
    by_tag None e g = by_reference (reference_ending t) refl g
    by_tag (Some n) e g = subst (IsReplaced t) (same_Some (take (length t - n) t) u g) (tag_ends t n e)

-- ---- texts that do not end with markup

pub unclosed_none : (t : Text) → is_closing (last_byte t) ≡ false → shortened t ≡ None
unfolding shortened tag_length reference_ending
unclosed_none t h =
    let parts = or_parts (last_byte t == closing) (last_byte t == semicolon) h in
    let references = cond (last_byte t == semicolon) (option_and_then reference_of (from_last ampersand (last_bytes 10 t))) None in
    ap (λ b. or_other (option_map (λ n. take (length t - n) t) (cond b (option_and_then tag_of (from_last opening (last_bytes 224 t))) None))
    (before_reference t)) parts.0
    ∙ ap (λ b. option_map (λ (r : Reference). take (length t - r.len) t ++ encode_utf8 r.character)
    (cond b (option_and_then reference_of (from_last ampersand (last_bytes 10 t))) None)) parts.1

-- ---- what is left

-- no markup ends at any place but the end
abbrev pub HasFreeFronts : Text → Type 0
HasFreeFronts t = (k : ℕ) → k < length t → shortened (take k t) ≡ None

pub record IsShorter (t u : Text) : Type 0 where
  pub shorter : length u < length t
  pub fronts : HasFreeFronts t → HasFreeFronts u
  pub utf8 : (rest : Text) → IsUtf8 (t ++ rest) → IsUtf8 (u ++ rest)
  pub marked : (has opening t ≡ false) → (has ampersand t ≡ false) → ⊥

-- the byte before this place is one of the character that was put in
quiet_front : (front added : Text) (at k : ℕ) → length front ≡ at → at < k → k < at + length added
    → ((j : ℕ) → j < length added → 1 < length added → is_closing (get_or added j 0) ≡ false)
    → is_closing (last_byte (take k (front ++ added))) ≡ false
quiet_front front added at k size after before quiet =
    let all = length-append front added in
    let cut : length (take k (front ++ added)) ≡ k = length-take-le k (front ++ added) (omega (arith, all, size, before)) in
    let inside : (k - 1) - at < length added = omega (arith, after, before) in
    let several : 1 < length added = omega (arith, after, before) in
    let byte : last_byte (take k (front ++ added)) ≡ get_or added ((k - 1) - at) 0 =
    ap (λ n. get_or (take k (front ++ added)) (n - 1) 0) cut ∙ get_or-take k (front ++ added) (k - 1) 0 (omega (arith, after))
    ∙ get_or-append_right front added at (k - 1) 0 size (omega (arith, after)) in
    ap is_closing byte ∙ quiet ((k - 1) - at) inside several

replaced_fronts : (t u : Text) → IsReplaced t u → HasFreeFronts t → HasFreeFronts u
replaced_fronts t u r free =
    let within = r.within in
    let size : length (take r.at t) ≡ r.at = length-take-le r.at t (omega (arith, within)) in
    let all = length-append (take r.at t) r.added in
    subst HasFreeFronts (sym r.is)
    (λ k h. by_place k (cases_lt r.at k) size within (omega (arith, h, all, size)))
  where
    by_place : (k : ℕ) → (r.at < k) ⊎ (k ≤ r.at) → length (take r.at t) ≡ r.at → r.at < length t → k < r.at + length r.added
        → shortened (take k (take r.at t ++ r.added)) ≡ None
    by_place k (inl after) size within h =
        unclosed_none (take k (take r.at t ++ r.added)) (quiet_front (take r.at t) r.added r.at k size after h r.quiet)
    by_place k (inr before) size within h =
        ap shortened (take-append-le k (take r.at t) r.added (omega (arith, size, before)) ∙ take-take k r.at t before)
        ∙ free k (omega (arith, before, within))

replaced_utf8 : (t u rest : Text) → IsReplaced t u → IsUtf8 (t ++ rest) → IsUtf8 (u ++ rest)
replaced_utf8 t u rest r utf8 =
    let cut : AreCut (take r.at t) rest = cut_utf8 t rest r.at r.within r.first r.last utf8 in
    subst (λ v. IsUtf8 (v ++ rest)) (sym r.is)
    (IsUtf8-append (take r.at t ++ r.added) rest (IsUtf8-append (take r.at t) r.added cut.before r.utf8) cut.after)

pub one_shorter : (t u : Text) → shortened t ≡ Some u → IsShorter t u
one_shorter t u h =
    let r : IsReplaced t u = one_replaced t u h in
    let within = r.within in
    let less = r.shorter in
    let size : length (take r.at t) ≡ r.at = length-take-le r.at t (omega (arith, within)) in
    let all = length-append (take r.at t) r.added in
    let left : length u ≡ length (take r.at t ++ r.added) = ap length r.is in
    record {
      shorter = omega (arith, less, size, all, left);
      fronts = replaced_fronts t u r;
      utf8 = λ rest utf8. replaced_utf8 t u rest r utf8;
      marked = r.marked;
    }

pub unmarked_none : (t : Text) → has opening t ≡ false → has ampersand t ≡ false → shortened t ≡ None
unmarked_none t h g = by_one (shortened t) refl
  where
    by_one : (o : Option Text) → shortened t ≡ o → o ≡ None
    by_one None e = refl
    by_one (Some u) e = absurd ((one_shorter t u e).marked h g)
