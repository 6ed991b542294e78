-- Tags in a text, and before and after it.
use Rattle.std.proofs.Common.{◌≡◌, ◌-◌, ◌≤◌, ◌⊎◌, inl, inr, [], ◌∷◌, ◌++◌, true, false, cond, Some, None, length, take, drop}
use Rattle.std.proofs.Common.{refl, sym, ap, ◌∙◌, append-nil, append_assoc, arith}
use Rattle.std.specs.Prelude.{◌==◌, ◌||◌, ◌&&◌, suc, nat_le, codes}
use Rattle.std.specs.List.{list_any}
use Rattle.std.specs.Option.{option_and_then, option_map}
use Rattle.std.proofs.lemmas.Bool.{and_parts, or_cases, eq-eqb, leb-true, not-true, cond_both}
use Rattle.std.proofs.lemmas.List.{take_at, length-append, length-drop}
use Rattle.text_model.specs.Texts.{Text}
use Rattle.title_markup.specs.Endings.{opening, closing, is_closing, last_byte, last_bytes, from_last, or_other, has}
use Rattle.title_markup.specs.Tags.{name_length, begins_with_letter, begins_with_name, begins, unslashed, ends_tag, is_inside, is_tag}
use Rattle.title_markup.specs.Tags.{tag_of, tag_length, tag_with, is_tag_with}
use Rattle.title_markup.specs.Titles.{before_reference, shortened, settled, read_after, read, is_blank, without_markup, IsMarkupFree}
use Rattle.title_markup.proofs.TextEnds.{last_of, lasts, from_place}
use Rattle.title_markup.proofs.Settling.{free_settled, rest_same}
use Rattle.title_markup.proofs.Reading.{nothing_free, read_free, read_in_turn, same_filled}
use Rattle.title_markup.proofs.Appending.{ends_free, open_read, has_not_both}

-- ---- how long a tag is

end_short : (t : Text) → ends_tag t ≡ true → length t ≤ 202
unfolding ends_tag
end_short t h = by_form (or_cases _ _ (and_parts _ _ h).1)
  where
    by_form : ((nat_le (length t) 1 || begins 0x2f t && nat_le (length t) 2) ≡ true) ⊎ ((begins 0x20 t && nat_le (length t) 202) ≡ true) → length t ≤ 202
    by_form (inl one) = by_slash (or_cases _ _ one)
      where
        by_slash : (nat_le (length t) 1 ≡ true) ⊎ ((begins 0x2f t && nat_le (length t) 2) ≡ true) → length t ≤ 202
        by_slash (inl bare) = omega (arith, leb-true (length t) 1 bare)
        by_slash (inr slash) = omega (arith, leb-true (length t) 2 (and_parts _ _ slash).1)
    by_form (inr space) = leb-true (length t) 202 (and_parts _ _ space).1

inside_short : (t : Text) → is_inside t ≡ true → length t ≤ 222
unfolding is_inside begins_with_name
inside_short t h =
    let parts = and_parts (begins_with_name t) (ends_tag (drop (name_length t) t)) h in
    let name : name_length t ≤ 20 = leb-true (name_length t) 20 (and_parts (begins_with_letter t) (nat_le (name_length t) 20) parts.0).1 in
    let rest : length (drop (name_length t) t) ≤ 202 = end_short (drop (name_length t) t) parts.1 in
    omega (arith, name, rest, length-drop (name_length t) t)

unslashed_long : (t : Text) → length t ≤ suc (length (unslashed t))
unslashed_long [] = omega arith
unslashed_long (b ∷ t) = cond_both (b == 0x2f) t (b ∷ t) (λ u. length (b ∷ t) ≤ suc (length u)) (λ _. omega arith) (λ _. omega arith)

tag_short : (t : Text) → is_tag t ≡ true → length t ≤ 224
tag_short [] h = omega arith
tag_short (b ∷ t) h =
    let inside : length (unslashed t) ≤ 222 = inside_short (unslashed t) (and_parts (b == opening) (is_inside (unslashed t)) h).1 in
    let long = unslashed_long t in
    omega (arith, inside, long)

-- ---- a tag at the end of a text

tag_found : (front inner : Text) → is_tag (tag_with inner) ≡ true → has opening inner ≡ false
    → tag_length (front ++ tag_with inner) ≡ Some (length (tag_with inner))
unfolding tag_length
tag_found front inner is free =
    let tag = tag_with inner in
    let all = front ++ tag in
    let joined : (front ++ opening ∷ inner) ++ closing ∷ [] ≡ all = append_assoc front (opening ∷ inner) (closing ∷ []) in
    let last : last_byte all ≡ closing = ap last_byte (sym joined) ∙ last_of (front ++ opening ∷ inner) closing in
    let closed : (last_byte all == closing) ≡ true = eq-eqb (last_byte all) closing last in
    let before = drop (length all - 224) front in
    let found : from_last opening (last_bytes 224 all) ≡ Some tag =
    ap (λ s. from_last opening s) (lasts 224 front tag (tag_short tag is))
    ∙ from_place opening before (inner ++ closing ∷ []) (has_not_both opening inner (closing ∷ []) free refl) in
    ap (λ b. cond b (option_and_then tag_of (from_last opening (last_bytes 224 all))) None) closed
    ∙ ap (λ o. option_and_then tag_of o) found ∙ ap (λ b. cond b (Some (length tag)) None) is

tag_goes_last : (front inner : Text) → is_tag (tag_with inner) ≡ true → has opening inner ≡ false
    → shortened (front ++ tag_with inner) ≡ Some front
unfolding shortened
tag_goes_last front inner is free =
    let tag = tag_with inner in
    let size = length-append front tag in
    let left : length (front ++ tag) - length tag ≡ length front = omega (arith, size) in
    ap (λ o. or_other (option_map (λ n. take (length (front ++ tag) - n) (front ++ tag)) o) (before_reference (front ++ tag)))
    (tag_found front inner is free)
    ∙ ap (λ k. Some (take k (front ++ tag))) left ∙ ap Some (take_at front tag (length front) refl)

-- ---- a tag in a text

tag_read : (front inner : Text) → IsMarkupFree front → is_tag_with inner ≡ true → read_after front (tag_with inner) ≡ front
tag_read front inner free h =
    let parts = and_parts _ _ h in
    let tag = and_parts _ _ parts.0 in
    let unopened = not-true (has opening inner) tag.1 in
    let unclosed = not-true (list_any is_closing inner) parts.1 in
    let whole : (front ++ opening ∷ inner) ++ closing ∷ [] ≡ front ++ tag_with inner = append_assoc front (opening ∷ inner) (closing ∷ []) in
    let goes = tag_goes_last front inner tag.0 unopened in
    read_in_turn front (opening ∷ inner) (closing ∷ [])
    ∙ ap (λ u. settled (u ++ closing ∷ [])) (open_read front (opening ∷ inner) free unclosed) ∙ ap settled whole
    ∙ sym (rest_same (front ++ tag_with inner) front goes) ∙ free_settled front (ends_free front free)

pub tag_goes : (inner front back : Text) → is_tag_with inner ≡ true → read (front ++ tag_with inner ++ back) ≡ read (front ++ back)
unfolding read
tag_goes inner front back h =
    let before = read_after [] front in
    ap (λ t. read_after [] t) (append_assoc front (tag_with inner) back) ∙ read_in_turn [] front (tag_with inner ++ back)
    ∙ read_in_turn before (tag_with inner) back ∙ ap (λ u. read_after u back) (tag_read before inner (read_free [] front nothing_free) h)
    ∙ sym (read_in_turn [] front back)

-- ---- a title in tags

tags_read : (first last t : Text) → is_tag_with first ≡ true → is_tag_with last ≡ true
    → read (tag_with first ++ t ++ tag_with last) ≡ read t
tags_read first last t h g =
    ap (λ s. read s) (append_assoc (tag_with first) t (tag_with last)) ∙ tag_goes first [] (t ++ tag_with last) h
    ∙ ap (λ s. read s) (sym (append-nil (t ++ tag_with last))) ∙ tag_goes last t [] g ∙ ap (λ s. read s) (append-nil t)

tags_go : (first last t : Text) → is_tag_with first ≡ true → is_tag_with last ≡ true → is_blank (read t) ≡ false
    → without_markup (tag_with first ++ t ++ tag_with last) ≡ without_markup t
tags_go first last t h g filled =
    let same = tags_read first last t h g in
    same_filled (tag_with first ++ t ++ tag_with last) t same (ap (λ s. is_blank s) same ∙ filled)

pub italic_goes : (t : Text) → is_blank (read t) ≡ false → without_markup (codes "<i>" ++ t ++ codes "</i>") ≡ without_markup t
unfolding is_inside begins_with_name ends_tag
italic_goes t filled = tags_go (codes "i") (codes "/i") t refl refl filled

pub paragraph_goes : (t : Text) → is_blank (read t) ≡ false
    → without_markup (codes "<jats:p xml:lang=\"en\">" ++ t ++ codes "</jats:p>") ≡ without_markup t
unfolding is_inside begins_with_name ends_tag
paragraph_goes t filled = tags_go (codes "jats:p xml:lang=\"en\"") (codes "/jats:p") t refl refl filled
