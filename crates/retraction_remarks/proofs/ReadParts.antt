-- What a text begins with that has the parts of a remark.
use Rattle.std.proofs.Common.{◌≡◌, ℕ, zero, suc, ◌+◌, ◌-◌, ◌<◌, ◌≤◌, List, [], ◌∷◌, Bool, true, false, cond, Some, None, length, get_or, drop}
use Rattle.std.proofs.Common.{refl, sym, ap, ◌∙◌, subst, arith}
use Rattle.std.specs.Prelude.{codes, nat_lt, ◌⊎◌}
use Rattle.std.proofs.Common.{inl, inr}
use Rattle.std.specs.List.{list_all, list_any}
use Rattle.std.specs.Str.{IsUtf8}
use Rattle.std.proofs.lemmas.Bool.{and_parts, or_cases, ltb-true}
use Rattle.std.proofs.lemmas.List.{drop-drop, length-drop}
use Rattle.std.proofs.lemmas.Option.{same_Some, option_and_then_some}
use Rattle.text_model.specs.Texts.{Text}
use Rattle.uri_text.specs.AnyCase.{begins_in_any_case}
use Rattle.retraction_remarks.specs.declared.parts.Part.{Part}
use Rattle.retraction_remarks.specs.declared.parts.Part.TheVariants.{Spaces, Space, Gap, Opening, Bracket, Sentence, Word, Work}
use Rattle.retraction_remarks.specs.declared.parts.Part.TheVariants.{Closing, Stop, Mark, Separator, Preposition, Label}
use Rattle.retraction_remarks.specs.Parts.{texts, after_any, after_parts}
use Rattle.retraction_remarks.specs.Titles.{has_word}
use Rattle.retraction_remarks.proofs.Beginnings.{is_first, begins_within, first_begins, ascii_ends, word_here, word_later}

-- ---- one part

-- the text begins with something that passes a test, and this is what is after it
record IsAfter (test : Text → Bool) (t r : Text) : Type 0 where
  beginning : Text
  passes : test beginning ≡ true
  begins : begins_in_any_case t beginning ≡ true
  rest : r ≡ drop (length beginning) t

after_of : (test : Text → Bool) (others : List Text) (t r : Text) → list_all test others ≡ true → after_any others t ≡ Some r → IsAfter test t r
after_of test [] t r all h = cc
after_of test (a ∷ others) t r all h = by_begins (begins_in_any_case t a) refl (after_of test others t r (and_parts _ _ all).1) h
  where
    by_begins : (b : Bool) → begins_in_any_case t a ≡ b → (after_any others t ≡ Some r → IsAfter test t r)
        → cond b (Some (drop (length a) t)) (after_any others t) ≡ Some r → IsAfter test t r
    by_begins true e later g = record {
      beginning = a;
      passes = (and_parts _ _ all).0;
      begins = e;
      rest = sym (same_Some (drop (length a) t) r g);
    }
    by_begins false e later g = later g

-- ---- tests of the parts' texts

-- no text, or one that begins with a character
abbrev begins_well : Text → Bool
begins_well a = is_first (get_or a 0 0)

all_begin_well : (part : Part) → list_all begins_well (texts part) ≡ true
unfolding texts
all_begin_well Spaces = refl
all_begin_well Space = refl
all_begin_well Gap = refl
all_begin_well Opening = refl
all_begin_well Bracket = refl
all_begin_well Sentence = refl
all_begin_well Word = refl
all_begin_well Work = refl
all_begin_well Closing = refl
all_begin_well Stop = refl
all_begin_well Mark = refl
all_begin_well Separator = refl
all_begin_well Preposition = refl
all_begin_well Label = refl

-- no text, or one whose last byte is ASCII
abbrev ends_well : Text → Bool
ends_well a = nat_lt (get_or a (length a - 1) 0) 128

abbrev pub all_end_well : Part → Bool
all_end_well Separator = false
all_end_well _ = true

end_well : (part : Part) → all_end_well part ≡ true → list_all ends_well (texts part) ≡ true
unfolding texts
end_well Spaces h = refl
end_well Space h = refl
end_well Gap h = refl
end_well Opening h = refl
end_well Bracket h = refl
end_well Sentence h = refl
end_well Word h = refl
end_well Work h = refl
end_well Closing h = refl
end_well Stop h = refl
end_well Mark h = refl
end_well Separator h = cc
end_well Preposition h = refl
end_well Label h = refl

abbrev pub is_word : Part → Bool
is_word Word = true
is_word _ = false

-- ---- all parts

-- a text, and what is left of it
pub record IsRead (t r : Text) : Type 0 where
  pub at : ℕ
  pub rest : r ≡ drop at t
  pub word : has_word t ≡ true
  pub shorter : length r < length t
  pub first : is_first (get_or t 0 0) ≡ true

some_rest : (parts : List Part) (t r : Text) → after_parts parts t ≡ Some r → (at : ℕ) × (r ≡ drop at t)
some_rest [] t r h = (0, sym (same_Some t r h))
some_rest (part ∷ parts) t r h =
    option_and_then_some (after_parts parts) (after_any (texts part) t) r h
    (λ u e g.
    let one = after_of (λ _. true) (texts part) t u (all_pass (texts part)) e in
    let others = some_rest parts u r g in
    (length one.beginning + others.0, others.1 ∙ ap (drop others.0) one.rest ∙ drop-drop others.0 (length one.beginning) t))
  where
    all_pass : (others : List Text) → list_all (λ _. true) others ≡ true
    all_pass [] = refl
    all_pass (a ∷ others) = all_pass others

pub some_utf8 : (parts : List Part) (t r : Text) → list_all all_end_well parts ≡ true → IsUtf8 t → after_parts parts t ≡ Some r → IsUtf8 r
some_utf8 [] t r all utf8 h = subst IsUtf8 (same_Some t r h) utf8
some_utf8 (part ∷ parts) t r all utf8 h =
    option_and_then_some (after_parts parts) (after_any (texts part) t) r h
    (λ u e g.
    let one = after_of ends_well (texts part) t u (end_well part (and_parts _ _ all).0) e in
    let left : IsUtf8 u = subst IsUtf8 (sym one.rest) (ascii_ends t one.beginning one.begins (ltb-true _ _ one.passes) utf8) in
    some_utf8 parts u r (and_parts _ _ all).1 left g)

the_word : (t u : Text) → after_any (texts Word) t ≡ Some u
    → (begins_in_any_case t (codes "retracted") ≡ true) × (u ≡ drop 9 t)
unfolding texts
the_word t u h = by_begins (begins_in_any_case t (codes "retracted")) refl h
  where
    by_begins : (b : Bool) → begins_in_any_case t (codes "retracted") ≡ b → cond b (Some (drop 9 t)) None ≡ Some u
        → (begins_in_any_case t (codes "retracted") ≡ true) × (u ≡ drop 9 t)
    by_begins true e g = (e, sym (same_Some (drop 9 t) u g))
    by_begins false e g = cc

-- the text begins with the word
word_first : (parts : List Part) (t u r : Text) → after_any (texts Word) t ≡ Some u → after_parts parts u ≡ Some r → IsRead t r
word_first parts t u r e g =
    let word = the_word t u e in
    let rest = some_rest parts u r g in
    let long : 9 ≤ length t = begins_within t (codes "retracted") word.0 in
    record {
      at = 9 + rest.0;
      rest = rest.1 ∙ ap (drop rest.0) word.1 ∙ drop-drop rest.0 9 t;
      word = word_here t word.0;
      shorter = omega (arith, ap length rest.1, ap length word.1, length-drop rest.0 u, length-drop 9 t, long);
      first = first_begins t (codes "retracted") word.0 (omega arith) refl;
    }

-- it has another part before what is read
part_first : (a t u r : Text) → begins_in_any_case t a ≡ true → u ≡ drop (length a) t → begins_well a ≡ true → IsRead u r → IsRead t r
part_first a t u r begins e well read = record {
  at = length a + read.at;
  rest = read.rest ∙ ap (drop read.at) e ∙ drop-drop read.at (length a) t;
  word = word_later (length a) t (subst (λ s. has_word s ≡ true) e read.word);
  shorter = omega (arith, read.shorter, ap length e, length-drop (length a) t);
  first = by_length (length a) refl;
}
  where
    by_length : (n : ℕ) → length a ≡ n → is_first (get_or t 0 0) ≡ true
    by_length zero none = subst (λ s. is_first (get_or s 0 0) ≡ true) (e ∙ ap (λ k. drop k t) none) read.first
    by_length (suc n) some = first_begins t a begins (omega (arith, some)) well

-- the word is one of the parts
some_word : (part : Part) → is_word part ≡ true → texts part ≡ texts Word
some_word Word h = refl
some_word _ h = cc

pub some_read : (parts : List Part) (t r : Text) → list_any is_word parts ≡ true → after_parts parts t ≡ Some r → IsRead t r
some_read [] t r has h = cc
some_read (part ∷ parts) t r has h =
    option_and_then_some (after_parts parts) (after_any (texts part) t) r h
    (λ u e g. by_word u e g (λ later. some_read parts u r later g) (or_cases _ _ has))
  where
    by_word : (u : Text) → after_any (texts part) t ≡ Some u → after_parts parts u ≡ Some r → (list_any is_word parts ≡ true → IsRead u r)
        → (is_word part ≡ true) ⊎ (list_any is_word parts ≡ true) → IsRead t r
    by_word u e g others (inl is) = word_first parts t u r (ap (λ list. after_any list t) (sym (some_word part is)) ∙ e) g
    by_word u e g others (inr later) =
        let one = after_of begins_well (texts part) t u (all_begin_well part) e in
        part_first one.beginning t u r one.begins one.rest one.passes (others later)
