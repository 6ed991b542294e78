-- The words of a text are parts of it.
use Rattle.std.proofs.Common.{◌≡◌, ℕ, ◌+◌, ◌≤◌, List, [], ◌∷◌, ◌++◌, Bool, true, false, cond, length, take, drop}
use Rattle.std.proofs.Common.{refl, sym, ap, ◌∙◌, append-nil, append_assoc, arith}
use Rattle.std.specs.List.{All, flat_map, onto_first, prefix_len, slice_split}
use Rattle.std.proofs.lemmas.Bool.{cond_both}
use Rattle.std.proofs.lemmas.List.{take-append-drop, take_at, drop_at, length-append, length-drop, length-take}
use Rattle.std.proofs.lemmas.List.Elements.{All-nil, All-cons, All-head, All-tail, All-append, All-weaker}
use Rattle.text_model.specs.Texts.{Text}
use Rattle.article_places.specs.Parts.{IsPartOf, IsFromFirst}
use Rattle.article_places.specs.Words as spec

-- a text is something, the part, and something
pub record IsIn (text part : Text) : Type 0 where
  pub before : Text
  pub after : Text
  pub whole : text ≡ before ++ (part ++ after)

pub part_is : (text part : Text) → IsIn text part → IsPartOf text part
part_is text part is = (
  length is.before,
  length part,
  sym (ap (λ s. take (length part) (drop (length is.before) s)) is.whole
      ∙ ap (take (length part)) (drop_at is.before (part ++ is.after) (length is.before) refl) ∙ take_at part is.after (length part) refl),
)

pub in_itself : (text : Text) → IsIn text text
in_itself text = record { before = []; after = []; whole = simp append-nil }

pub in_in : (text t w : Text) → IsIn text t → IsIn t w → IsIn text w
in_in text t w a b = record {
  before = a.before ++ b.before;
  after = b.after ++ a.after;
  whole = a.whole ∙ ap (λ s. a.before ++ (s ++ a.after)) b.whole ∙ simp append_assoc;
}

pub front_in : (n : ℕ) (text : Text) → IsIn text (take n text)
front_in n text = record { before = []; after = drop n text; whole = sym (take-append-drop n text) }

pub rest_in : (n : ℕ) (text : Text) → IsIn text (drop n text)
rest_in n text = record {
  before = take n text;
  after = [];
  whole = sym (take-append-drop n text) ∙ ap (λ s. take n text ++ s) (sym (append-nil (drop n text)));
}

tail_in : (b : ℕ) (text t : Text) → IsIn text t → IsIn (b ∷ text) t
tail_in b text t is = record { before = b ∷ is.before; after = is.after; whole = ap (λ s. b ∷ s) is.whole }

pub part_short : (text part : Text) → IsPartOf text part → length part ≤ length text
part_short text part is = omega (arith, ap length is.2, length-take is.1 (drop is.0 text), length-drop is.0 text)

pub last_short : (text first last : Text) → IsFromFirst text first last → length last ≤ length first + length text
last_short text first last is =
    omega (arith, ap length is.whole, length-append (take is.count first) is.rest, length-take is.count first, part_short text is.rest is.is)

-- ---- split at gaps

-- the first part is the beginning of the text, and the others are in it
AreSplit : Text → List Text → Type 0
AreSplit text [] = ⊥
AreSplit text (part ∷ parts) = ((after : Text) × (text ≡ part ++ after)) × All (IsIn text) parts

split-cons : (p : ℕ → Bool) (b : ℕ) (text : Text) (parts : List Text) (c : Bool) → AreSplit text parts
    → AreSplit (b ∷ text) (cond c ([] ∷ parts) (onto_first b parts))
unfolding AreSplit
split-cons p b text [] c are = absurd are
split-cons p b text (part ∷ parts) true are =
    let first : IsIn text part = record { before = []; after = are.0.0; whole = are.0.1 } in
    let all = All-cons (IsIn text) part parts first are.1 in
    ((b ∷ text, refl), All-weaker (IsIn text) (IsIn (b ∷ text)) (tail_in b text) (part ∷ parts) all)
split-cons p b text (part ∷ parts) false are =
    ((are.0.0, ap (λ s. b ∷ s) are.0.1), All-weaker (IsIn text) (IsIn (b ∷ text)) (tail_in b text) parts are.1)

split_is : (p : ℕ → Bool) (text : Text) → AreSplit text (slice_split p text)
unfolding AreSplit
split_is p [] = (([], refl), All-nil (IsIn []))
split_is p (b ∷ text) = split-cons p b text (slice_split p text) (p b) (split_is p text)

all_in : (text : Text) (parts : List Text) → AreSplit text parts → All (IsIn text) parts
unfolding AreSplit
all_in text [] are = absurd are
all_in text (part ∷ parts) are = All-cons (IsIn text) part parts (record { before = []; after = are.0.0; whole = are.0.1 }) are.1

pub parts_in : (p : ℕ → Bool) (text : Text) → All (IsIn text) (slice_split p text)
parts_in p text = all_in text (slice_split p text) (split_is p text)

-- ---- words

-- if all words of each part have a property, all words of the parts together have it
pub flat_are : (P Q : Text → Type 0) (f : Text → List Text) → ((t : Text) → P t → All Q (f t)) → (ts : List Text) → All P ts → All Q (flat_map f ts)
flat_are P Q f each [] all = All-nil Q
flat_are P Q f each (t ∷ ts) all =
    All-append Q (f t) (flat_map f ts) (each t (All-head P t ts all)) (flat_are P Q f each ts (All-tail P t ts all))

apart_in : (text word : Text) → IsIn text word → All (IsIn text) (spec.apart word)
apart_in text [] is = All-nil (IsIn text)
apart_in text (b ∷ rest) is =
    let w : Text = b ∷ rest in
    let n = spec.letters w in
    cond_both (spec.is_joined w) (take n w ∷ drop n w ∷ []) (w ∷ []) (All (IsIn text))
    (λ _. All-cons (IsIn text) (take n w) (drop n w ∷ []) (in_in text w (take n w) is (front_in n w))
    (All-cons (IsIn text) (drop n w) [] (in_in text w (drop n w) is (rest_in n w)) (All-nil (IsIn text))))
    (λ _. All-cons (IsIn text) w [] is (All-nil (IsIn text)))

words_in_in : (text : Text) → All (IsIn text) (spec.words_in text)
words_in_in text = flat_are (IsIn text) (IsIn text) spec.apart (apart_in text) (slice_split spec.is_gap text) (parts_in spec.is_gap text)

pub within : (text t : Text) (words : List Text) → IsIn text t → All (IsIn t) words → All (IsIn text) words
within text t words is all = All-weaker (IsIn t) (IsIn text) (λ w h. in_in text t w is h) words all

bracketed_in : (text : Text) → All (IsIn text) (spec.bracketed text)
bracketed_in [] = All-nil (IsIn [])
bracketed_in (b ∷ text) =
    All-cons (IsIn (b ∷ text)) (b ∷ []) (spec.words_in text) (record { before = []; after = text; whole = refl })
    (All-weaker (IsIn text) (IsIn (b ∷ text)) (tail_in b text) (spec.words_in text) (words_in_in text))

pub words_are_in : (text : Text) → All (IsIn text) (spec.words text)
words_are_in text =
    let n = prefix_len spec.is_not_open text in
    All-append (IsIn text) (spec.words_in (take n text)) (spec.bracketed (drop n text))
    (within text (take n text) (spec.words_in (take n text)) (front_in n text) (words_in_in (take n text)))
    (within text (drop n text) (spec.bracketed (drop n text)) (rest_in n text) (bracketed_in (drop n text)))
