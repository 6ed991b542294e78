-- The entries of names and places.
use Rattle.std.proofs.Common.{◌≡◌, ℕ, zero, suc, ◌+◌, ◌≤◌, List, [], ◌∷◌, ◌++◌, Bool, true, false, length, slice_get, Some, is_some, bytes_eq, All}
use Rattle.std.proofs.Common.{refl, sym, ap, ◌∙◌, subst, arith, add-zero}
use Rattle.std.specs.Prelude.{◌==◌}
use Rattle.std.proofs.lemmas.List.Elements.{All-head, All-tail}
use Rattle.std.proofs.lemmas.Slice.Eq.{bytes_eq-Decides}
use Rattle.std.proofs.lemmas.Bool.{ne_eqb}
use Rattle.std.proofs.lemmas.Option.{same_Some}
use Rattle.std.proofs.lemmas.Grind.{common_steps}
use Rattle.text_model.specs.Texts.{Text}
use Rattle.environment_model.specs.Environment.{Environment, Entry, look_up, is_there, is_among, more, with_member}
use Rattle.environment_model.proofs.Environments.{look_up-empty, look_up-same, look_up-other, with_member-same, with_member-other}
use Rattle.environment_model.proofs.NameTests.{itself}
use Rattle.target_vars.specs.EnvValue.{EachNameOnce}
use Rattle.target_vars.specs.Layout.{meaning_in, entries_from, IsPlace}
use Rattle.target_vars.specs.declared.place.Place.{Place}
use Rattle.target_vars.specs.declared.place.Place.TheVariants.{Many}

-- the members of the list of each number
abbrev Lists : Type 0
Lists = ℕ → List Text

abbrev pub entry : Text → List Text → Text → Place → Entry
entry b members name place = record { name = name; meaning = meaning_in b members place }

pub entries_from-empty : (b : Text) (m : Lists) (i : ℕ) (ps : List Place) → entries_from b m i [] ps ≡ []
unfolding entries_from
entries_from-empty b m i ps = refl

pub entries_from-cons : (b : Text) (m : Lists) (i : ℕ) (n : Text) (ns : List Text) (p : Place) (ps : List Place) → entries_from b m i (n ∷ ns) (p ∷ ps)
    ≡ entry b (m i) n p ∷ entries_from b m (suc i) ns ps
unfolding entries_from
entries_from-cons b m i n ns p ps = refl

entries_from-short : (b : Text) (m : Lists) (i : ℕ) (n : Text) (ns : List Text) → entries_from b m i (n ∷ ns) [] ≡ []
unfolding entries_from
entries_from-short b m i n ns = refl

pub entries_from-push : (b : Text) (m : Lists) (i : ℕ) (ns : List Text) (ps : List Place) (n : Text) (p : Place) → length ps ≡ length ns
    → entries_from b m i (ns ++ n ∷ []) (ps ++ p ∷ []) ≡ entries_from b m i ns ps ++ entry b (m (i + length ns)) n p ∷ []
entries_from-push b m i [] [] n p long = grind (arith, entries_from-cons, entries_from-empty)
entries_from-push b m i [] (q ∷ ps) n p long = absurd (omega arith)
entries_from-push b m i (x ∷ ns) [] n p long = absurd (omega arith)
entries_from-push b m i (x ∷ ns) (q ∷ ps) n p long =
    let next : suc i + length ns ≡ i + length (x ∷ ns) = omega arith in
    entries_from-cons b m i x (ns ++ n ∷ []) q (ps ++ p ∷ [])
    ∙ ap (λ es. entry b (m i) x q ∷ es) (entries_from-push b m (suc i) ns ps n p (omega arith))
    ∙ ap (λ j. entry b (m i) x q ∷ (entries_from b m (suc i) ns ps ++ entry b (m j) n p ∷ [])) next
    ∙ ap (λ es. es ++ entry b (m (i + length (x ∷ ns))) n p ∷ []) (sym (entries_from-cons b m i x ns q ps))

same_meaning : (b t : Text) (ms : List Text) (p : Place) → IsPlace b p → meaning_in (b ++ t) ms p ≡ meaning_in b ms p
same_meaning b t ms p is = grind (arith, common_steps)

-- the same entries, after a text is appended to the buffer and the lists from a number on stay the same
pub entries_stay : (b t : Text) (m m' : Lists) (i : ℕ) (ns : List Text) (ps : List Place) → All (IsPlace b) ps → ((j : ℕ) → i ≤ j → m' j ≡ m j)
    → entries_from (b ++ t) m' i ns ps ≡ entries_from b m i ns ps
entries_stay b t m m' i [] ps are same = entries_from-empty (b ++ t) m' i ps ∙ sym (entries_from-empty b m i ps)
entries_stay b t m m' i (n ∷ ns) [] are same = entries_from-short (b ++ t) m' i n ns ∙ sym (entries_from-short b m i n ns)
entries_stay b t m m' i (n ∷ ns) (p ∷ ps) are same =
    entries_from-cons (b ++ t) m' i n ns p ps
    ∙ ap (λ ms. entry (b ++ t) ms n p ∷ entries_from (b ++ t) m' (suc i) ns ps) (same i (omega arith))
    ∙ ap (λ e. record { name = n; meaning = e } ∷ entries_from (b ++ t) m' (suc i) ns ps) (same_meaning b t (m i) p (All-head (IsPlace b) p ps are))
    ∙ ap (λ es. entry b (m i) n p ∷ es) (entries_stay b t m m' (suc i) ns ps (All-tail (IsPlace b) p ps are) (λ j from. same j (omega arith)))
    ∙ sym (entries_from-cons b m i n ns p ps)

-- the same entries, if the lists from a number on stay the same
pub entries_same : (b : Text) (m m' : Lists) (i : ℕ) (ns : List Text) (ps : List Place) → ((j : ℕ) → i ≤ j → m' j ≡ m j)
    → entries_from b m' i ns ps ≡ entries_from b m i ns ps
entries_same b m m' i [] ps same = entries_from-empty b m' i ps ∙ sym (entries_from-empty b m i ps)
entries_same b m m' i (n ∷ ns) [] same = entries_from-short b m' i n ns ∙ sym (entries_from-short b m i n ns)
entries_same b m m' i (n ∷ ns) (p ∷ ps) same =
    entries_from-cons b m' i n ns p ps
    ∙ ap (λ ms. entry b ms n p ∷ entries_from b m' (suc i) ns ps) (same i (omega arith))
    ∙ ap (λ es. entry b (m i) n p ∷ es) (entries_same b m m' (suc i) ns ps (λ j from. same j (omega arith)))
    ∙ sym (entries_from-cons b m i n ns p ps)

-- ---- look-ups

pub is_there-entries : (b : Text) (m : Lists) (i : ℕ) (ns : List Text) (ps : List Place) (name : Text) → length ps ≡ length ns
    → is_there (entries_from b m i ns ps) name ≡ is_among name ns
is_there-entries b m i [] ps name long = ap (λ es. is_there es name) (entries_from-empty b m i ps) ∙ ap is_some (look_up-empty name)
is_there-entries b m i (n ∷ ns) [] name long = absurd (omega arith)
is_there-entries b m i (n ∷ ns) (p ∷ ps) name long =
    ap (λ es. is_there es name) (entries_from-cons b m i n ns p ps) ∙ by_cases (bytes_eq n name) refl (is_there-entries b m (suc i) ns ps name (omega arith))
  where
    by_cases : (r : Bool) → bytes_eq n name ≡ r → is_there (entries_from b m (suc i) ns ps) name ≡ is_among name ns
        → is_there (entry b (m i) n p ∷ entries_from b m (suc i) ns ps) name ≡ is_among name (n ∷ ns)
    by_cases r same following = grind (arith, look_up-same, look_up-other)

-- a name of a later entry is not that of the first
not_in_front : (e : Entry) (env : Environment) (name : Text) → EachNameOnce (e ∷ env) → is_there env name ≡ true → bytes_eq e.name name ≡ false
not_in_front e env name once there = grind (arith, bytes_eq-Decides)

pub look_up-at : (b : Text) (m : Lists) (i : ℕ) (ns : List Text) (ps : List Place) (name : Text) (k : ℕ) (p : Place) → EachNameOnce (entries_from b m i ns ps)
    → slice_get ns k ≡ Some name → slice_get ps k ≡ Some p
    → look_up (entries_from b m i ns ps) name ≡ Some (meaning_in b (m (i + k)) p)
look_up-at b m i [] ps name k p once named placed = absurd (cc)
look_up-at b m i (n ∷ ns) [] name k p once named placed = absurd (cc)
look_up-at b m i (n ∷ ns) (q ∷ ps) name zero p once named placed =
    let own : n ≡ name = same_Some _ _ named in
    let its : q ≡ p = same_Some _ _ placed in
    ap (λ es. look_up es name) (entries_from-cons b m i n ns q ps)
    ∙ look_up-same (entry b (m i) n q) (entries_from b m (suc i) ns ps) name (ap (λ x. bytes_eq x name) own ∙ itself name)
    ∙ ap (λ x. Some (meaning_in b (m i) x)) its
    ∙ ap (λ j. Some (meaning_in b (m j) p)) (sym (add-zero i))
look_up-at b m i (n ∷ ns) (q ∷ ps) name (suc k) p once named placed =
    let e = entry b (m i) n q in
    let env = entries_from b m (suc i) ns ps in
    let once' : EachNameOnce (e ∷ env) = subst EachNameOnce (entries_from-cons b m i n ns q ps) once in
    let following = look_up-at b m (suc i) ns ps name k p once'.1 named placed in
    let next : suc i + k ≡ i + suc k = omega arith in
    ap (λ es. look_up es name) (entries_from-cons b m i n ns q ps)
    ∙ look_up-other e env name (not_in_front e env name once' (ap is_some following))
    ∙ following
    ∙ ap (λ j. Some (meaning_in b (m j) p)) next

-- ---- one more member

pub with_member-at : (b t : Text) (m m' : Lists) (i : ℕ) (ns : List Text) (ps : List Place) (name : Text) (k : ℕ) → EachNameOnce (entries_from b m i ns ps)
    → slice_get ns k ≡ Some name → slice_get ps k ≡ Some Many
    → m' (i + k) ≡ m (i + k) ++ t ∷ [] → ((j : ℕ) → (i + k == j) ≡ false → m' j ≡ m j) → entries_from b m' i ns ps ≡ with_member (entries_from b m i ns ps)
    name t
with_member-at b t m m' i [] ps name k once named placed own others = absurd (cc)
with_member-at b t m m' i (n ∷ ns) [] name k once named placed own others = absurd (cc)
with_member-at b t m m' i (n ∷ ns) (q ∷ ps) name zero once named placed own others =
    let same : n ≡ name = same_Some _ _ named in
    let its : q ≡ Many = same_Some _ _ placed in
    let e = entry b (m i) n q in
    let env = entries_from b m (suc i) ns ps in
    let here : m' i ≡ m i ++ t ∷ [] = subst (λ j. m' j ≡ m j ++ t ∷ []) (add-zero i) own in
    entries_from-cons b m' i n ns q ps
    ∙ ap (λ es. entry b (m' i) n q ∷ es) (entries_same b m m' (suc i) ns ps (λ j from. others j (ne_eqb (i + 0) j (λ at. omega arith))))
    ∙ ap (λ ms. entry b ms n q ∷ env) here
    ∙ ap (λ x. record { name = n; meaning = x } ∷ env) (ap (meaning_in b (m i ++ t ∷ [])) its ∙ ap (λ x. more (meaning_in b (m i) x) t) (sym its))
    ∙ sym (with_member-same e env name t (ap (λ x. bytes_eq x name) same ∙ itself name))
    ∙ ap (λ es. with_member es name t) (sym (entries_from-cons b m i n ns q ps))
with_member-at b t m m' i (n ∷ ns) (q ∷ ps) name (suc k) once named placed own others =
    let e = entry b (m i) n q in
    let env = entries_from b m (suc i) ns ps in
    let once' : EachNameOnce (e ∷ env) = subst EachNameOnce (entries_from-cons b m i n ns q ps) once in
    let there = ap is_some (look_up-at b m (suc i) ns ps name k Many once'.1 named placed) in
    let next : i + suc k ≡ suc i + k = omega arith in
    entries_from-cons b m' i n ns q ps
    ∙ ap (λ ms. entry b ms n q ∷ entries_from b m' (suc i) ns ps) (others i (ne_eqb (i + suc k) i (λ at. omega arith)))
    ∙ ap (λ es. e ∷ es) (with_member-at b t m m' (suc i) ns ps name k once'.1 named placed (subst (λ j. m' j ≡ m j ++ t ∷ []) next own)
    (λ j differs. others j (ap (λ x. x == j) next ∙ differs)))
    ∙ sym (with_member-other e env name t (not_in_front e env name once' there))
    ∙ ap (λ es. with_member es name t) (sym (entries_from-cons b m i n ns q ps))
