-- What is left of a title without one remark.
use Rattle.std.proofs.Common.{◌≡◌, ℕ, ◌<◌, ◌≤◌, List, [], ◌∷◌, ◌++◌, Bool, true, false, cond, ◌⊎◌, inl, inr, Option, Some, None, length, get_or, take, drop}
use Rattle.std.proofs.Common.{refl, sym, ap, ◌∙◌, subst, arith, append-nil, append_assoc}
use Rattle.std.specs.List.{list_all, list_any}
use Rattle.std.specs.Option.{option_map, unwrap_or}
use Rattle.std.specs.Str.{IsUtf8}
use Rattle.std.proofs.lemmas.Bool.{and_parts, or_cases, eqb-true}
use Rattle.std.proofs.lemmas.List.{take-append-drop, length-take, length-append}
use Rattle.std.proofs.lemmas.Option.{same_Some}
use Rattle.std.proofs.lemmas.Str.{IsUtf8-take}
use Rattle.text_model.specs.Texts.{Text}
use Rattle.retraction_remarks.specs.declared.parts.Part.{Part}
use Rattle.retraction_remarks.specs.declared.remarks.Form.{Form}
use Rattle.retraction_remarks.specs.declared.remarks.Form.TheVariants.{InBrackets, Translated, Plain, After}
use Rattle.retraction_remarks.specs.Parts.{after_parts}
use Rattle.retraction_remarks.specs.Remarks.{in_brackets, translated, plain, opened, separated, passes, ends_remark, is_bracketed}
use Rattle.retraction_remarks.specs.Remarks.{is_separated, is_remark, is_over, is_bracket, before_place, without_bracket}
use Rattle.retraction_remarks.specs.Titles.{left, is_blank, filled, or_other, first_left, forms, without_one, IsPartOf, has_word}
use Rattle.retraction_remarks.proofs.Beginnings.{is_first, first_boundary, word_later}
use Rattle.retraction_remarks.proofs.Places.{IsPlace, place_of}
use Rattle.retraction_remarks.proofs.ReadParts.{all_end_well, is_word, IsRead, some_read, some_utf8}

-- ---- parts

pub part_all : (t : Text) → IsPartOf t t
part_all t = ([], [], sym (append-nil t))

pub part_part : (t u v : Text) → IsPartOf t u → IsPartOf u v → IsPartOf t v
part_part t u v outer inner =
    (outer.0 ++ inner.0, inner.1 ++ outer.1, outer.2 ∙ ap (λ s. outer.0 ++ s ++ outer.1) inner.2 ∙ simp append_assoc)

part_after : (t u : Text) (at : ℕ) → u ≡ drop at t → IsPartOf t u
part_after t u at e =
    (take at t, [], sym (append-nil (take at t ++ u) ∙ ap (λ s. take at t ++ s) e ∙ take-append-drop at t))

part_before : (t u : Text) (at : ℕ) → u ≡ take at t → IsPartOf t u
part_before t u at e = ([], drop at t, sym (ap (λ s. s ++ drop at t) e ∙ take-append-drop at t))

pub part_short : (t u : Text) → IsPartOf t u → length u ≤ length t
part_short t u part =
    omega (arith, ap length part.2, length-append (part.0 ++ u) part.1, length-append part.0 u)

-- ---- one remark less

pub record IsLess (t u : Text) : Type 0 where
  pub part : IsPartOf t u
  pub shorter : length u < length t
  pub word : has_word t ≡ true
  pub utf8 : IsUtf8 t → IsUtf8 u

before_less : (parts : List Part) (t r : Text) → list_any is_word parts ≡ true → list_all all_end_well parts ≡ true → after_parts parts t ≡ Some r
    → IsLess t r
before_less parts t r has end h =
    let read = some_read parts t r has h in
    record {
      part = part_after t r read.at read.rest;
      shorter = read.shorter;
      word = read.word;
      utf8 = λ is. some_utf8 parts t r end is h;
    }

-- ---- ends

place_utf8 : (test : Text → Bool) (t u : Text) (place : IsPlace test t u) → is_first (get_or (drop place.at t) 0 0) ≡ true → IsUtf8 t → IsUtf8 u
place_utf8 test t u place first is =
    subst IsUtf8 (sym place.front) (IsUtf8-take t place.at is (first_boundary t place.at place.within first))

passed : (test : Text → Bool) (o : Option Text) → passes test o ≡ true → (r : Text) × (o ≡ Some r)
passed test None h = cc
passed test (Some r) h = (r, refl)

remark_reads : (t : Text) → is_remark t ≡ true → (r : Text) × IsRead t r
unfolding is_remark is_bracketed is_separated opened separated
remark_reads t h = by_form (or_cases _ _ (and_parts _ _ h).1)
  where
    by_form : (is_bracketed t ≡ true) ⊎ (is_separated t ≡ true) → (r : Text) × IsRead t r
    by_form (inl is) = let found = passed ends_remark (after_parts opened t) is in (found.0, some_read opened t found.0 refl found.1)
    by_form (inr is) =
        let found = passed is_over (after_parts separated t) (and_parts _ _ is).0 in
        (found.0, some_read separated t found.0 refl found.1)

after_less : (t u : Text) → before_place is_remark t ≡ Some u → IsLess t u
after_less t u h =
    let place = place_of is_remark t u h in
    let read = (remark_reads (drop place.at t) place.passes).1 in
    record {
      part = part_before t u place.at place.front;
      shorter = omega (arith, place.within, ap length place.front, length-take place.at t);
      word = word_later place.at t read.word;
      utf8 = place_utf8 is_remark t u place read.first;
    }

bracket_first : (t : Text) → is_bracket t ≡ true → is_first (get_or t 0 0) ≡ true
bracket_first [] h = cc
bracket_first (b ∷ t) h = ap is_first (eqb-true b 0x5d (and_parts _ _ h).0)

-- a part of the text that is no longer, and is UTF-8 if the text is
record IsWithin (t u : Text) : Type 0 where
  part : IsPartOf t u
  utf8 : IsUtf8 t → IsUtf8 u

bracket_within : (t : Text) → IsWithin t (without_bracket t)
bracket_within t = by_place (before_place is_bracket t) refl
  where
    by_place : (o : Option Text) → before_place is_bracket t ≡ o → IsWithin t (unwrap_or o t)
    by_place None e = record { part = part_all t; utf8 = λ is. is }
    by_place (Some u) e =
        let place = place_of is_bracket t u e in
        record {
          part = part_before t u place.at place.front;
          utf8 = place_utf8 is_bracket t u place (bracket_first (drop place.at t) place.passes);
        }

translated_less : (t u : Text) (o : Option Text) → after_parts translated t ≡ o → option_map without_bracket o ≡ Some u → IsLess t u
unfolding translated
translated_less t u None e h = cc
translated_less t u (Some r) e h =
    let less = before_less translated t r refl refl e in
    let within = bracket_within r in
    subst (IsLess t) (same_Some (without_bracket r) u h)
    record {
      part = part_part t r (without_bracket r) less.part within.part;
      shorter = omega (arith, less.shorter, part_short r (without_bracket r) within.part);
      word = less.word;
      utf8 = λ is. within.utf8 (less.utf8 is);
    }

left_less : (form : Form) (t u : Text) → left form t ≡ Some u → IsLess t u
unfolding left in_brackets plain
left_less InBrackets t u h = before_less in_brackets t u refl refl h
left_less Translated t u h = translated_less t u (after_parts translated t) refl h
left_less Plain t u h = before_less plain t u refl refl h
left_less After t u h = after_less t u h

-- ---- of all forms

pub record IsLeft (t u : Text) : Type 0 where
  pub less : IsLess t u
  pub filled : is_blank u ≡ false

first_less : (fs : List Form) (t u : Text) → first_left fs t ≡ Some u → IsLeft t u
first_less [] t u h = cc
first_less (form ∷ fs) t u h = by_form (left form t) refl (first_less fs t u) h
  where
    by_blank : (r : Text) (b : Bool) → is_blank r ≡ b → left form t ≡ Some r → (first_left fs t ≡ Some u → IsLeft t u)
        → or_other (cond b None (Some r)) (first_left fs t) ≡ Some u → IsLeft t u
    by_blank r true e is others g = others g
    by_blank r false e is others g =
        subst (IsLeft t) (same_Some r u g) record { less = left_less form t r is; filled = e }

    by_form : (o : Option Text) → left form t ≡ o → (first_left fs t ≡ Some u → IsLeft t u) → or_other (filled o) (first_left fs t) ≡ Some u
        → IsLeft t u
    by_form None e others g = others g
    by_form (Some r) e others g = by_blank r (is_blank r) refl e others g

pub one_left : (t u : Text) → without_one t ≡ Some u → IsLeft t u
unfolding without_one
one_left t u h = first_less forms t u h

pub one_less : (t u : Text) → without_one t ≡ Some u → IsLess t u
one_less t u h = (one_left t u h).less
