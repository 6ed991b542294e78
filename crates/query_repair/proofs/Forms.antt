-- A query as forms are encoded has none of the marks of a repair.
use Rattle.std.proofs.Common.{◌≡◌, ℕ, ◌/◌, ◌%◌, ◌<◌, Bool, true, false, cond, not, ◌&&◌, ◌||◌, List, [], ◌∷◌, ◌++◌, length, refl, sym, ap, subst, ◌∙◌}
use Rattle.std.proofs.Common.{arith, append_assoc}
use Rattle.std.specs.Prelude.{◌==◌}
use Rattle.std.specs.Fmt.{digit_glyph}
use Rattle.std.specs.List.{All, list_any, onto_first}
use Rattle.std.proofs.lemmas.Bool.{and_parts, cond_both, eqb-true, lt-ltb, not-true}
use Rattle.std.proofs.lemmas.Bool.Decides.{nat_tests}
use Rattle.std.proofs.lemmas.List.Elements.{All-nil, All-cons, All-append}
use Rattle.std.proofs.lemmas.List.Splits.{slice_split_none}
use Rattle.percent_encoding.specs.Percent.{percent_encode_byte}
use Rattle.form_urlencoded.specs.Form as form
use Rattle.text_model.specs.Texts.{Text}
use Rattle.query_repair.specs.Pieces.{ampersand, parts}
use Rattle.query_repair.specs.Joining.{is_loose}
use Rattle.query_repair.specs.Repair.{semicolon}
use Rattle.query_repair.specs.Settled.{is_mark, HasNoMarks}
use Rattle.query_repair.proofs.Bounds.{some_parts}

is_safe : ℕ → Bool
is_safe b = not (is_mark b) && not (b == ampersand)

abbrev AreSafe : Text → Type 0
AreSafe t = All (λ b. is_safe b ≡ true) t

-- ---- what a form writes for a name or a value

unchanged_choice : (b : ℕ) (x y z : Bool) → (b == 0x3f) ≡ x → (b == semicolon) ≡ y → (b == ampersand) ≡ z → form.is_unchanged b ≡ true
    → (not (x || y) && not z) ≡ true
unchanged_choice b true y z e f g h = let no : form.is_unchanged b ≡ false = ap form.is_unchanged (eqb-true b 0x3f e) in cc
unchanged_choice b false true z e f g h = let no : form.is_unchanged b ≡ false = ap form.is_unchanged (eqb-true b semicolon f) in cc
unchanged_choice b false false true e f g h = let no : form.is_unchanged b ≡ false = ap form.is_unchanged (eqb-true b ampersand g) in cc
unchanged_choice b false false false e f g h = refl

safe_unchanged : (b : ℕ) → form.is_unchanged b ≡ true → is_safe b ≡ true
unfolding is_safe
safe_unchanged b h = unchanged_choice b (b == 0x3f) (b == semicolon) (b == ampersand) refl refl refl h

safe_digit : (d : ℕ) → d < 16 → is_safe (digit_glyph true d) ≡ true
unfolding is_safe
safe_digit d h = grind (arith, nat_tests)

safe_escape : (b : ℕ) → AreSafe (percent_encode_byte b)
unfolding percent_encode_byte is_safe
safe_escape b =
    let P : ℕ → Type 0 = λ c. is_safe c ≡ true in
    All-cons P 0x25 (digit_glyph true (b / 16 % 16) ∷ digit_glyph true (b % 16) ∷ []) refl
    (All-cons P (digit_glyph true (b / 16 % 16)) (digit_glyph true (b % 16) ∷ []) (safe_digit (b / 16 % 16) (omega arith))
    (All-cons P (digit_glyph true (b % 16)) [] (safe_digit (b % 16) (omega arith)) (All-nil P)))

safe_plus : is_safe form.plus_sign ≡ true
unfolding is_safe
safe_plus = refl

safe_byte : (b : ℕ) → AreSafe (form.serialize_byte b)
safe_byte b =
    let P : ℕ → Type 0 = λ c. is_safe c ≡ true in
    cond_both (form.is_unchanged b) (b ∷ []) (cond (b == form.space) (form.plus_sign ∷ []) (percent_encode_byte b)) AreSafe
    (λ e. All-cons P b [] (safe_unchanged b e) (All-nil P))
    (λ e. cond_both (b == form.space) (form.plus_sign ∷ []) (percent_encode_byte b) AreSafe
    (λ k. All-cons P form.plus_sign [] safe_plus (All-nil P)) (λ k. safe_escape b))

safe_text : (t : Text) → AreSafe (form.byte_serialize t)
unfolding form.byte_serialize
safe_text [] = All-nil (λ c. is_safe c ≡ true)
safe_text (b ∷ t) = All-append (λ c. is_safe c ≡ true) (form.serialize_byte b) (form.byte_serialize t) (safe_byte b) (safe_text t)

-- ---- a pair

safe_pair : (name value : Text) → AreSafe (form.serialize_pair (name, value))
unfolding is_safe
safe_pair name value =
    let P : ℕ → Type 0 = λ c. is_safe c ≡ true in
    All-append P (form.byte_serialize name ++ form.equals_sign ∷ []) (form.byte_serialize value)
    (All-append P (form.byte_serialize name) (form.equals_sign ∷ []) (safe_text name) (All-cons P form.equals_sign [] refl (All-nil P)))
    (safe_text value)

or_holds : (x y : Bool) → y ≡ true → (x || y) ≡ true
or_holds true y h = refl
or_holds false y h = h

has_sign : (x y : Text) → list_any (λ b. b == 0x3d) ((x ++ form.equals_sign ∷ []) ++ y) ≡ true
has_sign [] y = refl
has_sign (b ∷ x) y = or_holds (b == 0x3d) (list_any (λ b. b == 0x3d) ((x ++ form.equals_sign ∷ []) ++ y)) (has_sign x y)

tight_pair : (name value : Text) → is_loose (form.serialize_pair (name, value)) ≡ false
unfolding is_loose
tight_pair name value =
    let t : Text = form.serialize_pair (name, value) in
    ap (λ b. not b && list_any (λ b. b == 0x2b || b == 0x25) t) (has_sign (form.byte_serialize name) (form.byte_serialize value))

-- ---- parts of a text and another one

onto_both : (b : ℕ) (ps qs : List Text) → 0 < length ps → onto_first b (ps ++ qs) ≡ onto_first b ps ++ qs
onto_both b [] qs some = absurd (omega arith)
onto_both b (p ∷ ps) qs some = refl

split_choice : (is : Bool) (b : ℕ) (ps qs : List Text) → 0 < length ps
    → cond is ([] ∷ (ps ++ qs)) (onto_first b (ps ++ qs)) ≡ cond is ([] ∷ ps) (onto_first b ps) ++ qs
split_choice true b ps qs some = refl
split_choice false b ps qs some = onto_both b ps qs some

parts_of_both : (z w : Text) → parts (z ++ ampersand ∷ w) ≡ parts z ++ parts w
parts_of_both [] w = refl
parts_of_both (b ∷ z) w =
    ap (λ ps. cond (b == ampersand) ([] ∷ ps) (onto_first b ps)) (parts_of_both z w)
    ∙ split_choice (b == ampersand) b (parts z) (parts w) (some_parts (λ x. x == ampersand) z)

-- ---- a form

no_mark_of : (b : ℕ) → is_safe b ≡ true → is_mark b ≡ false
unfolding is_safe
no_mark_of b h = not-true (is_mark b) (and_parts _ _ h).0

no_ampersand_of : (b : ℕ) → is_safe b ≡ true → (b == ampersand) ≡ false
unfolding is_safe
no_ampersand_of b h = not-true (b == ampersand) (and_parts _ _ h).1

no_marks_pair : (name value : Text) → HasNoMarks (form.serialize_pair (name, value))
no_marks_pair name value =
    let t : Text = form.serialize_pair (name, value) in
    let safe : AreSafe t = safe_pair name value in
    let one : parts t ≡ t ∷ [] = slice_split_none (λ b. b == ampersand) t (λ k d within. no_ampersand_of _ (safe k d within)) in
    record {
      bytes = λ k d within. no_mark_of _ (safe k d within);
      pairs = subst (All (λ part. is_loose part ≡ false)) (sym one)
          (All-cons (λ part. is_loose part ≡ false) t [] (tight_pair name value) (All-nil (λ part. is_loose part ≡ false)));
    }

no_marks_joined : (z w : Text) → HasNoMarks z → HasNoMarks w → HasNoMarks (z ++ ampersand ∷ w)
no_marks_joined z w h k =
    let P : ℕ → Type 0 = λ b. is_mark b ≡ false in
    let L : Text → Type 0 = λ part. is_loose part ≡ false in
    record {
      bytes = All-append P z (ampersand ∷ w) h.bytes (All-cons P ampersand w refl k.bytes);
      pairs = subst (All L) (sym (parts_of_both z w)) (All-append L (parts z) (parts w) h.pairs k.pairs);
    }

no_marks_after : (text name value : Text) → HasNoMarks text → HasNoMarks (form.append_pair text name value)
no_marks_after [] name value h = no_marks_pair name value
no_marks_after (b ∷ text) name value h =
    let pair : Text = form.serialize_pair (name, value) in
    let some : form.is_nonempty (b ∷ text) ≡ true = lt-ltb 0 (length (b ∷ text)) (omega arith) in
    let whole : form.append_pair (b ∷ text) name value ≡ (b ∷ text) ++ ampersand ∷ pair =
    ap (λ is. ((b ∷ text) ++ cond is (ampersand ∷ []) []) ++ pair) some ∙ append_assoc (b ∷ text) (ampersand ∷ []) pair in
    subst HasNoMarks (sym whole)
    (no_marks_joined (b ∷ text) (form.serialize_pair (name, value)) h (no_marks_pair name value))

no_marks_extended : (pairs : List (Text × Text)) (text : Text) → HasNoMarks text → HasNoMarks (form.extend_pairs text pairs)
no_marks_extended [] text h = h
no_marks_extended ((name, value) ∷ pairs) text h =
    no_marks_extended pairs (form.append_pair text name value) (no_marks_after text name value h)

nothing_has_marks : HasNoMarks []
unfolding is_loose
nothing_has_marks =
    let L : Text → Type 0 = λ part. is_loose part ≡ false in
    record { bytes = All-nil (λ b. is_mark b ≡ false); pairs = All-cons L [] [] refl (All-nil L) }

pub forms_have_no_marks : (pairs : List (Text × Text)) → HasNoMarks (form.extend_pairs [] pairs)
forms_have_no_marks pairs = no_marks_extended pairs [] nothing_has_marks
