-- The pairs that fit into a query.
use Rattle.std.proofs.Common.{◌≡◌, ◌<◌, ◌≤◌, ◌+◌, ℕ, true, false, cond, List, [], ◌∷◌, fold, get_or, map, take, drop, length, refl, ap, ◌∙◌, arith}
use Rattle.std.proofs.lemmas.Bool.{cond_both}
use Rattle.std.proofs.lemmas.Bool.Decides.{nat_tests}
use Rattle.std.proofs.lemmas.List.{drop_more, length-append, map-append, take_more}
use Rattle.std.proofs.lemmas.List.Sums.{fold-append}
use Rattle.form_urlencoded.specs.Form as form
use Rattle.text_model.specs.Texts.{Text}
use Rattle.kev_read.specs.Pairs.{KeyValue}
use Rattle.kev_read.specs.declared.read.TheConstants.{MAX_QUERY_BYTES}
use Rattle.source_requests.specs.Requests.{as_texts, fits, fitting, fitting_after, with_pair, written}

-- a form with more pairs
abbrev with_pairs : Text → List KeyValue → Text
with_pairs text pairs = form.extend_pairs text (map as_texts pairs)

fits_short : (text : Text) → fits text ≡ true → length text ≤ MAX_QUERY_BYTES
fits_short text h = grind (arith, nat_tests)

short_fits : (text : Text) → length text ≤ MAX_QUERY_BYTES → fits text ≡ true
short_fits text h = grind (arith, nat_tests)

-- ---- the form of the pairs that fit

short_after : (text : Text) (pairs : List KeyValue) → length text ≤ MAX_QUERY_BYTES
    → length (with_pairs text (fitting_after text pairs)) ≤ MAX_QUERY_BYTES
short_after text [] short = short
short_after text (pair ∷ pairs) short =
    let longer : Text = with_pair text pair in
    cond_both (fits longer) (pair ∷ fitting_after longer pairs) [] (λ (ps : List KeyValue). length (with_pairs text ps) ≤ MAX_QUERY_BYTES)
    (λ e. short_after longer pairs (fits_short longer e))
    (λ e. short)

pub short : (pairs : List KeyValue) → length (written (fitting pairs)) ≤ MAX_QUERY_BYTES
short pairs = short_after [] pairs (omega arith)

-- ---- they are the first ones

first_after : (text : Text) (pairs : List KeyValue) → fitting_after text pairs ≡ take (length (fitting_after text pairs)) pairs
first_after text [] = refl
first_after text (pair ∷ pairs) =
    let longer : Text = with_pair text pair in
    cond_both (fits longer) (pair ∷ fitting_after longer pairs) [] (λ ps. ps ≡ take (length ps) (pair ∷ pairs))
    (λ e. ap (λ ps. pair ∷ ps) (first_after longer pairs))
    (λ e. refl)

pub first : (pairs : List KeyValue) → fitting pairs ≡ take (length (fitting pairs)) pairs
first pairs = first_after [] pairs

-- ---- all of them

append_grows : (text : Text) (pair : KeyValue) → length text ≤ length (with_pair text pair)
append_grows text pair = simp length-append (omega arith)

pairs_grow : (text : Text) (pairs : List KeyValue) → length text ≤ length (with_pairs text pairs)
pairs_grow text [] = omega arith
pairs_grow text (pair ∷ pairs) =
    let longer : Text = with_pair text pair in
    omega (arith, append_grows text pair, pairs_grow longer pairs)

all_after : (text : Text) (pairs : List KeyValue) → length (with_pairs text pairs) ≤ MAX_QUERY_BYTES → fitting_after text pairs ≡ pairs
all_after text [] short = refl
all_after text (pair ∷ pairs) short =
    let longer : Text = with_pair text pair in
    let is : fits longer ≡ true = short_fits longer (omega (arith, short, pairs_grow longer pairs)) in
    ap (λ b. cond b (pair ∷ fitting_after longer pairs) []) is ∙ ap (λ ps. pair ∷ ps) (all_after longer pairs short)

pub all : (pairs : List KeyValue) → length (written pairs) ≤ MAX_QUERY_BYTES → fitting pairs ≡ pairs
all pairs short = all_after [] pairs short

-- ---- one pair after another

pub stops : (text : Text) (pairs : List KeyValue) (i : ℕ) (d : KeyValue) → i < length pairs
    → fits (with_pair text (get_or pairs i d)) ≡ false → fitting_after text (drop i pairs) ≡ []
stops text pairs i d within h =
    let pair = get_or pairs i d in
    let longer : Text = with_pair text pair in
    ap (fitting_after text) (drop_more pairs i d within) ∙ ap (λ b. cond b (pair ∷ fitting_after longer (drop (i + 1) pairs)) []) h

pub goes_on : (text : Text) (pairs : List KeyValue) (i : ℕ) (d : KeyValue) → i < length pairs
    → fits (with_pair text (get_or pairs i d)) ≡ true
    → fitting_after text (drop i pairs)
    ≡ get_or pairs i d ∷ fitting_after (with_pair text (get_or pairs i d)) (drop (i + 1) pairs)
goes_on text pairs i d within h =
    let pair = get_or pairs i d in
    let longer : Text = with_pair text pair in
    ap (fitting_after text) (drop_more pairs i d within) ∙ ap (λ b. cond b (pair ∷ fitting_after longer (drop (i + 1) pairs)) []) h

pub written_more : (pairs : List KeyValue) (i : ℕ) (d : KeyValue) → i < length pairs
    → written (take (i + 1) pairs) ≡ with_pair (written (take i pairs)) (get_or pairs i d)
written_more pairs i d within =
    let pair = get_or pairs i d in
    let add : Text → Text × Text → Text = λ text texts. form.append_pair text texts.0 texts.1 in
    ap written (take_more pairs i d within) ∙ ap (fold add []) (map-append as_texts (take i pairs) (pair ∷ []))
    ∙ fold-append add [] (map as_texts (take i pairs)) (as_texts pair ∷ [])

pub fitting_few : (pairs : List KeyValue) → length (fitting pairs) ≤ length pairs
fitting_few pairs = fewer [] pairs
  where
    fewer : (text : Text) (pairs : List KeyValue) → length (fitting_after text pairs) ≤ length pairs
    fewer text [] = omega arith
    fewer text (pair ∷ pairs) =
        let longer : Text = with_pair text pair in
        cond_both (fits longer) (pair ∷ fitting_after longer pairs) [] (λ (ps : List KeyValue). length ps ≤ length (pair ∷ pairs))
        (λ e. omega (arith, fewer longer pairs))
        (λ e. omega arith)
