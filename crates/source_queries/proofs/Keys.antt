-- Which names declare an encoding once they are written in a form.
use Rattle.std.proofs.Common.{◌≡◌, ◌≢◌, ℕ, Bool, true, cond, not, ◌&&◌, ◌||◌, [], ◌∷◌, ◌++◌, map, take, length, refl, sym, ap, subst, ◌∙◌}
use Rattle.std.proofs.Common.{arith, append_assoc}
use Rattle.std.specs.Prelude.{◌==◌, codes, nat_le}
use Rattle.std.specs.Char.{to_ascii_lowercase}
use Rattle.std.specs.List.{All}
use Rattle.std.specs.Str.{bytes_eq}
use Rattle.std.proofs.lemmas.Bool.{and_parts, cond_both, eqb-true}
use Rattle.std.proofs.lemmas.Bool.Decides.{nat_tests}
use Rattle.std.proofs.lemmas.List.Elements.{All-head, All-tail, All-weaker}
use Rattle.std.proofs.lemmas.List.Sums.{AllPass-from_list_all}
use Rattle.percent_encoding.specs.Percent.{percent_encode_byte}
use Rattle.form_urlencoded.specs.Form as form
use Rattle.form_urlencoded.proofs.FormLemmas.{byte_serialize-nil, byte_serialize-cons}
use Rattle.text_model.specs.Texts.{Text}
use Rattle.request_encodings.specs.Declarations.{is_declaration}
use Rattle.source_queries.specs.Utf8.{is_encoding_key}

-- neither the end of a name in a form, nor a space or the beginning of an escape
abbrev IsLetter : ℕ → Type 0
IsLetter c = (c ≢ 61) × (c ≢ 43) × (c ≢ 37)

-- the text begins with these small letters, in either case
begins : Text → Text → Bool
begins text w = bytes_eq (map to_ascii_lowercase (take (length w) text)) w

begins_with : (c : ℕ) (w : Text) (b : ℕ) (tail : Text) → begins (b ∷ tail) (c ∷ w) ≡ true
    → ((to_ascii_lowercase b == c) ≡ true) × (begins tail w ≡ true)
unfolding begins
begins_with c w b tail h = and_parts _ _ h

letter_first : (c : ℕ) (w : Text) (b : ℕ) (tail : Text) → IsLetter c → begins (form.serialize_byte b ++ tail) (c ∷ w) ≡ true
    → ((to_ascii_lowercase b == c) ≡ true) × (begins tail w ≡ true)
unfolding percent_encode_byte
letter_first c w b tail letter =
    let P : Text → Type 0 = λ x. begins (x ++ tail) (c ∷ w) ≡ true → ((to_ascii_lowercase b == c) ≡ true) × (begins tail w ≡ true) in
    cond_both (form.is_unchanged b) (b ∷ []) (cond (b == form.space) (form.plus_sign ∷ []) (percent_encode_byte b)) P
    (λ e h. begins_with c w b tail h)
    (λ e. cond_both (b == form.space) (form.plus_sign ∷ []) (percent_encode_byte b) P
    (λ k h. absurd (letter.1 (sym (eqb-true 43 c (begins_with c w 43 tail h).0))))
    (λ k h. absurd (letter.2 (sym (eqb-true 37 c (begins_with c w 37 _ h).0)))))

no_end : (b : ℕ) → form.is_unchanged b ≡ true → (to_ascii_lowercase b == 61) ≡ true → ⊥
no_end b h k = grind (arith, nat_tests)

end_first : (b : ℕ) (tail : Text) → begins (form.serialize_byte b ++ tail) (61 ∷ []) ≡ true → ⊥
unfolding percent_encode_byte
end_first b tail =
    let P : Text → Type 0 = λ x. begins (x ++ tail) (61 ∷ []) ≡ true → ⊥ in
    cond_both (form.is_unchanged b) (b ∷ []) (cond (b == form.space) (form.plus_sign ∷ []) (percent_encode_byte b)) P
    (λ e h. no_end b e (begins_with 61 [] b tail h).0)
    (λ e. cond_both (b == form.space) (form.plus_sign ∷ []) (percent_encode_byte b) P
    (λ k h. let both = begins_with 61 [] 43 tail h in cc)
    (λ k h. let both = begins_with 61 [] 37 _ h in cc))

first_byte : (b : ℕ) (t rest : Text)
    → form.byte_serialize (b ∷ t) ++ 61 ∷ rest ≡ form.serialize_byte b ++ (form.byte_serialize t ++ 61 ∷ rest)
first_byte b t rest =
    ap (λ x. x ++ 61 ∷ rest) (byte_serialize-cons b t) ∙ append_assoc (form.serialize_byte b) (form.byte_serialize t) (61 ∷ rest)

-- a name that is written so is so itself
same_name : (w name rest : Text) → All IsLetter w → begins (form.byte_serialize name ++ 61 ∷ rest) (w ++ 61 ∷ []) ≡ true
    → bytes_eq (map to_ascii_lowercase name) w ≡ true
same_name [] [] rest letters h = refl
same_name [] (b ∷ t) rest letters h =
    let tail : Text = form.byte_serialize t ++ 61 ∷ rest in
    absurd (end_first b tail
    (subst (λ x. begins x (61 ∷ []) ≡ true) (first_byte b t rest) h))
same_name (c ∷ w) [] rest letters h =
    let both = begins_with c (w ++ 61 ∷ []) 61 rest (subst (λ x. begins (x ++ 61 ∷ rest) (c ∷ (w ++ 61 ∷ [])) ≡ true) byte_serialize-nil h) in
    absurd ((All-head IsLetter c w letters).0 (sym (eqb-true 61 c both.0)))
same_name (c ∷ w) (b ∷ t) rest letters h =
    let tail : Text = form.byte_serialize t ++ 61 ∷ rest in
    let both = letter_first c (w ++ 61 ∷ []) b tail (All-head IsLetter c w letters)
    (subst (λ x. begins x (c ∷ (w ++ 61 ∷ [])) ≡ true) (first_byte b t rest) h) in
    ap (λ x. x && bytes_eq (map to_ascii_lowercase t) w) both.0 ∙ same_name w t rest (All-tail IsLetter c w letters) both.1

is_letter : ℕ → Bool
is_letter c = not (c == 61) && not (c == 43) && not (c == 37)

letter_from : (c : ℕ) → is_letter c ≡ true → IsLetter c
unfolding is_letter
letter_from c h = (λ e. grind (arith, nat_tests), λ e. grind (arith, nat_tests), λ e. grind (arith, nat_tests))

letters : All IsLetter (codes "ctx_enc")
unfolding is_letter
letters = All-weaker (λ c. is_letter c ≡ true) IsLetter letter_from (codes "ctx_enc") (AllPass-from_list_all is_letter (codes "ctx_enc") refl)

pub key_of_declaration : (name rest : Text) → is_declaration (form.byte_serialize name ++ 61 ∷ rest) ≡ true → is_encoding_key name ≡ true
unfolding begins
key_of_declaration name rest h = same_name (codes "ctx_enc") name rest letters h

-- ---- a name that is so is written so

-- `_`, or a small letter
is_small : ℕ → Bool
is_small c = c == 95 || nat_le 97 c && nat_le c 122

-- in either case it is written as it is
small_unchanged : (b c : ℕ) → is_small c ≡ true → (to_ascii_lowercase b == c) ≡ true → form.is_unchanged b ≡ true
unfolding is_small
small_unchanged b c small same = grind (arith, nat_tests)

byte_written : (c : ℕ) (w : Text) (b : ℕ) (tail : Text) → form.is_unchanged b ≡ true → (to_ascii_lowercase b == c) ≡ true → begins tail w ≡ true
    → begins (form.serialize_byte b ++ tail) (c ∷ w) ≡ true
unfolding begins percent_encode_byte
byte_written c w b tail unchanged same rest =
    ap (λ x. begins (cond x (b ∷ []) (cond (b == form.space) (form.plus_sign ∷ []) (percent_encode_byte b)) ++ tail) (c ∷ w)) unchanged
    ∙ ap (λ x. x && begins tail w) same ∙ rest

name_written : (w name rest : Text) → All (λ c. is_small c ≡ true) w → bytes_eq (map to_ascii_lowercase name) w ≡ true
    → begins (form.byte_serialize name ++ 61 ∷ rest) (w ++ 61 ∷ []) ≡ true
unfolding begins
name_written [] [] rest small h = ap (λ x. begins (x ++ 61 ∷ rest) (61 ∷ [])) byte_serialize-nil ∙ refl
name_written [] (b ∷ t) rest small h = cc
name_written (c ∷ w) [] rest small h = cc
name_written (c ∷ w) (b ∷ t) rest small h =
    let P : ℕ → Type 0 = λ c. is_small c ≡ true in
    let both = and_parts _ _ h in
    let unchanged = small_unchanged b c (All-head P c w small) both.0 in
    subst (λ x. begins x (c ∷ (w ++ 61 ∷ [])) ≡ true) (sym (first_byte b t rest))
    (byte_written c (w ++ 61 ∷ []) b (form.byte_serialize t ++ 61 ∷ rest) unchanged both.0 (name_written w t rest (All-tail P c w small) both.1))

pub declaration_of_key : (name rest : Text) → is_encoding_key name ≡ true → is_declaration (form.byte_serialize name ++ 61 ∷ rest) ≡ true
unfolding begins is_small
declaration_of_key name rest h = name_written (codes "ctx_enc") name rest (AllPass-from_list_all is_small (codes "ctx_enc") refl) h
