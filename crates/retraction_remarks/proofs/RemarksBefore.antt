-- Remarks before any title.
use Rattle.std.proofs.Common.{◌≡◌, [], ◌∷◌, ◌++◌, Bool, true, false, cond, ◌&&◌, Option, Some, None, drop, refl, sym, ap, ◌∙◌}
use Rattle.std.specs.Prelude.{codes, nat_eq}
use Rattle.std.specs.Char.{to_ascii_lowercase}
use Rattle.std.specs.Option.{option_and_then}
use Rattle.std.proofs.lemmas.Bool.{and_left}
use Rattle.text_model.specs.Texts.{Text}
use Rattle.uri_text.specs.AnyCase.{begins_in_any_case}
use Rattle.retraction_remarks.specs.Parts.{texts, after_any, after_parts}
use Rattle.retraction_remarks.specs.Remarks.{in_brackets, translated, plain}
use Rattle.retraction_remarks.specs.Titles.{left, filled, is_blank, without_one, without_remarks}
use Rattle.retraction_remarks.proofs.Fixpoint.{rest_same}

-- ---- the space before a title

abbrev space : Text
space = codes " "

abbrev no_space : Text → Type 0
no_space t = begins_in_any_case t space ≡ false

no_two : (t : Text) → no_space t → begins_in_any_case (0x20 ∷ t) (codes "  ") ≡ false
no_two [] h = refl
no_two (b ∷ t) h = h

no_three : (t : Text) → no_space t → begins_in_any_case (0x20 ∷ t) (codes "   ") ≡ false
no_three [] h = refl
no_three (b ∷ t) h = and_left (nat_eq (to_ascii_lowercase b) 0x20) _ (other (nat_eq (to_ascii_lowercase b) 0x20) h)
  where
    other : (c : Bool) → (c && true) ≡ false → c ≡ false
    other true e = e
    other false e = refl

one_space : (t : Text) → no_space t → after_any (codes "   " ∷ codes "  " ∷ space ∷ [] ∷ []) (0x20 ∷ t) ≡ Some t
one_space t h =
    ap (λ c. cond c (Some (drop 2 t)) (cond (begins_in_any_case (0x20 ∷ t) (codes "  ")) (Some (drop 1 t)) (Some t))) (no_three t h)
    ∙ ap (λ c. cond c (Some (drop 1 t)) (Some t)) (no_two t h)

-- ---- each remark

colon_left : (t : Text) → no_space t → after_parts plain (codes "RETRACTED: " ++ t) ≡ Some t
unfolding plain texts
colon_left t h = ap (option_and_then (after_parts [])) (one_space t h)

colon_brackets : (t : Text) → after_parts in_brackets (codes "RETRACTED: " ++ t) ≡ None
unfolding in_brackets texts
colon_brackets t = refl

colon_translated : (t : Text) → after_parts translated (codes "RETRACTED: " ++ t) ≡ None
unfolding translated texts
colon_translated t = refl

article_left : (t : Text) → no_space t → after_parts plain (codes "RETRACTED ARTICLE: " ++ t) ≡ Some t
unfolding plain texts
article_left t h = ap (option_and_then (after_parts [])) (one_space t h)

article_brackets : (t : Text) → after_parts in_brackets (codes "RETRACTED ARTICLE: " ++ t) ≡ None
unfolding in_brackets texts
article_brackets t = refl

article_translated : (t : Text) → after_parts translated (codes "RETRACTED ARTICLE: " ++ t) ≡ None
unfolding translated texts
article_translated t = refl

brackets_left : (t : Text) → no_space t → after_parts in_brackets (codes "[Retracted] " ++ t) ≡ Some t
unfolding in_brackets texts
brackets_left t h = ap (option_and_then (after_parts [])) (one_space t h)

-- ---- the title without it

filled_left : (t : Text) (o : Option Text) → is_blank t ≡ false → o ≡ Some t → filled o ≡ Some t
filled_left t o h e = ap filled e ∙ ap (λ b. cond b None (Some t)) h

by_plain : (title t : Text) → after_parts in_brackets title ≡ None → after_parts translated title ≡ None → is_blank t ≡ false
    → after_parts plain title ≡ Some t → without_one title ≡ Some t
unfolding without_one left
by_plain title t no_brackets not_translated h e =
    rw (no_brackets, not_translated, e, h) refl

by_brackets : (title t : Text) → is_blank t ≡ false → after_parts in_brackets title ≡ Some t → without_one title ≡ Some t
unfolding without_one left
by_brackets title t h e = rw (e, h) refl

pub colon_goes : (t : Text) → no_space t → is_blank t ≡ false → without_remarks (codes "RETRACTED: " ++ t) ≡ without_remarks t
colon_goes t h filled =
    let title = codes "RETRACTED: " ++ t in
    sym (rest_same title t (by_plain title t (colon_brackets t) (colon_translated t) filled (colon_left t h)))

pub article_goes : (t : Text) → no_space t → is_blank t ≡ false → without_remarks (codes "RETRACTED ARTICLE: " ++ t) ≡ without_remarks t
article_goes t h filled =
    let title = codes "RETRACTED ARTICLE: " ++ t in
    sym (rest_same title t (by_plain title t (article_brackets t) (article_translated t) filled (article_left t h)))

pub brackets_go : (t : Text) → no_space t → is_blank t ≡ false → without_remarks (codes "[Retracted] " ++ t) ≡ without_remarks t
brackets_go t h filled =
    let title = codes "[Retracted] " ++ t in
    sym (rest_same title t (by_brackets title t filled (brackets_left t h)))
