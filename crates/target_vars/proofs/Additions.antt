-- A name that is added with a text, and a member that is appended to the list of its name.
use Rattle.std.proofs.Common.{◌≡◌, ℕ, ◌+◌, ◌<◌, ◌≤◌, List, [], ◌∷◌, ◌++◌, Bool, true, false, map, length, insert, slice_get, Some, is_some, IsTrue, All, IsUtf8}
use Rattle.std.proofs.Common.{refl, sym, ap, ◌∙◌, subst, arith, length-append, zero-add, ⊎_elim}
use Rattle.std.specs.Prelude.{◌==◌}
use Rattle.std.proofs.lemmas.List.{map-append}
use Rattle.std.proofs.lemmas.List.Edits.{length-insert}
use Rattle.std.proofs.lemmas.List.Elements.{All-cons, All-push, All-filter, All-weaker}
use Rattle.std.proofs.lemmas.List.Sorted.{IsPermutation-insert, All-permutation}
use Rattle.std.proofs.lemmas.Option.{slice_get_within}
use Rattle.text_model.specs.Texts.{Text}
use Rattle.environment_model.specs.Environment.{Entry, Single, Several, is_there, is_among, text_in, text_of, byte_count, member_count, with_text, with_member}
use Rattle.environment_model.proofs.Environments.{byte_count-with_text, byte_count-with_member, member_count-with_member, member_count-push, with_text-new}
use Rattle.environment_model.proofs.Environments.{with_member-new, with_member-append, with_member-same}
use Rattle.target_vars.specs.EnvValue.{EachNameOnce}
use Rattle.target_vars.specs.Layout.{span_bytes, spans_of, list_members, laid_entries, IsPiece, IsPlace, IsPutLast, HasList, IsLaid}
use Rattle.target_vars.specs.declared.place.Part.{Part}
use Rattle.target_vars.specs.declared.place.Span.{Span}
use Rattle.target_vars.specs.declared.place.Place.{Place}
use Rattle.target_vars.specs.declared.place.Place.TheVariants.{One, Many}
use Rattle.target_vars.specs.declared.env.TheConstants.{MAX_BYTES, MAX_MEMBERS}
use Rattle.target_vars.proofs.Once.{once-push, once-with_member}
use Rattle.target_vars.proofs.Growth.{same_pieces, pieces_stay, places_stay, last_part, last_is_part}
use Rattle.target_vars.proofs.Spans.{none_of}
use Rattle.environment_model.proofs.NameTests.{itself}
use Rattle.target_vars.proofs.Entries.{entry, entries_from-push, entries_stay, with_member-at}
use Rattle.target_vars.proofs.Laid.{is_there-laid, look_up-lacking, no_text-at}

-- a limit that is not exceeded, as a test found
pub within : (r : Bool) (limit n : ℕ) → (limit < n → IsTrue r) → r ≡ false → n ≤ limit
within r limit n passes refused = let not_above : limit < n → ⊥ = λ above. (let yes : r ≡ true = passes above in cc) in omega arith

-- the lists stay the same when a text is appended to the buffer
members_stay : (b t : Text) (spans : List Span) (j : ℕ) → All (IsPiece b) spans → list_members (b ++ t) spans j ≡ list_members b spans j
members_stay b t spans j pieces = same_pieces b t (spans_of spans j) (All-filter (λ s. s.list == j) (IsPiece b) spans pieces)

-- ---- a text

pub put_is : (b t : Text) (spans : List Span) (names : List Text) (places : List Place) (name : Text) (p : Part) → IsLaid b spans names places
    → is_among name names ≡ false → p.start ≡ length b → p.len ≡ length t
    → laid_entries (b ++ t) spans (names ++ name ∷ []) (places ++ One p ∷ []) ≡ with_text (laid_entries b spans names places) name t
put_is b t spans names places name p laid lacks start len =
    entries_from-push (b ++ t) (list_members (b ++ t) spans) 0 names places name (One p) laid.one_each
    ∙ ap (λ es. es ++ entry (b ++ t) [] name (One p) ∷ []) (entries_stay b t (list_members b spans) (list_members (b ++ t) spans) 0 names places laid.placed
    (λ j from. members_stay b t spans j laid.pieces))
    ∙ ap (λ x. laid_entries b spans names places ++ record { name = name; meaning = Single x } ∷ []) (last_part b t p start len)
    ∙ sym (with_text-new (laid_entries b spans names places) name t (is_there-laid b spans names places name laid ∙ lacks))

pub laid_put : (b t : Text) (spans : List Span) (names : List Text) (places : List Place) (name : Text) (p : Part) → IsUtf8 b → IsUtf8 t
    → IsLaid b spans names places → is_among name names ≡ false → p.start ≡ length b → p.len ≡ length t
    → length b + length t ≤ MAX_BYTES → IsLaid (b ++ t) spans (names ++ name ∷ []) (places ++ One p ∷ [])
laid_put b t spans names places name p ub ut laid lacks start len few =
    let env = laid_entries b spans names places in
    let e : Entry = record { name = name; meaning = Single t } in
    let absent : is_there env name ≡ false = is_there-laid b spans names places name laid ∙ lacks in
    let entries = put_is b t spans names places name p laid lacks start len in
    let pushed : with_text env name t ≡ env ++ e ∷ [] = with_text-new env name t absent in
    let one_each = laid.one_each in
    let more_names = length-append names (name ∷ []) in
    let more_places = length-append places (One p ∷ []) in
    let whole = length-append b t in
    let bytes : byte_count (laid_entries (b ++ t) spans (names ++ name ∷ []) (places ++ One p ∷ [])) ≡ byte_count env + length t =
    ap byte_count entries ∙ byte_count-with_text env name t absent in
    let members : member_count (laid_entries (b ++ t) spans (names ++ name ∷ []) (places ++ One p ∷ [])) ≡ member_count env + 0 =
    ap member_count (entries ∙ pushed) ∙ member_count-push env e in
    let filled = laid.filled in
    let counted = laid.counted in
    record {
      pieces = pieces_stay b t spans ub ut laid.pieces;
      placed = All-push (IsPlace (b ++ t)) places (One p) (places_stay b t places ub ut laid.placed) (last_is_part b t p ut start len);
      one_each = omega arith;
      in_order = laid.in_order;
      known = All-weaker (λ s. s.list < length names) (λ s. s.list < length (names ++ name ∷ [])) (λ s below. omega arith) spans laid.known;
      filled = omega arith;
      counted = omega arith;
      once = subst EachNameOnce (sym (entries ∙ pushed)) (once-push env e laid.once absent);
      few_bytes = omega arith;
      few_members = laid.few_members;
    }

-- ---- the list of a name

-- the name has an empty list, or the one that it had
record IsReady (b t : Text) (spans : List Span) (names : List Text) (places : List Place) (name : Text) (names' : List Text) (places' : List Place) : Type
    0 where
  once : EachNameOnce (laid_entries b spans names' places')
  same : with_member (laid_entries b spans names' places') name t ≡ with_member (laid_entries b spans names places) name t
  placed : All (IsPlace b) places'
  one_each : length places' ≡ length names'
  known : All (λ s. s.list < length names') spans
  no_text : is_some (text_of (laid_entries b spans names places) name) ≡ false

ready : (b t : Text) (spans : List Span) (names : List Text) (places : List Place) (name : Text) (names' : List Text) (places' : List Place) (k : ℕ)
    → IsLaid b spans names places → HasList names places name names' places' k → IsReady b t spans names places name names' places'
ready b t spans names places name names' places' k laid has = ⊎_elim known_list new_list has.cases
  where
    known_list : (names' ≡ names) × (places' ≡ places) → IsReady b t spans names places name names' places'
    known_list h =
        let named : slice_get names k ≡ Some name = ap (λ ns. slice_get ns k) (sym h.0) ∙ has.named in
        let listed : slice_get places k ≡ Some Many = ap (λ ps. slice_get ps k) (sym h.1) ∙ has.is_list in
        rw (h.0, h.1) (record {
          once = laid.once;
          same = refl;
          placed = laid.placed;
          one_each = laid.one_each;
          known = laid.known;
          no_text = ap is_some (no_text-at b spans names places name k laid named listed);
        })

    new_list : (is_among name names ≡ false) × (names' ≡ names ++ name ∷ []) × (places' ≡ places ++ Many ∷ [])
        → IsReady b t spans names places name names' places'
    new_list h =
        let env = laid_entries b spans names places in
        let e : Entry = record { name = name; meaning = Several [] } in
        let absent : is_there env name ≡ false = is_there-laid b spans names places name laid ∙ h.0 in
        let none : list_members b spans (length names) ≡ [] = ap (map (span_bytes b)) (none_of spans (length names) laid.known) in
        let entries : laid_entries b spans (names ++ name ∷ []) (places ++ Many ∷ []) ≡ env ++ e ∷ [] =
        entries_from-push b (list_members b spans) 0 names places name Many laid.one_each ∙ ap (λ ms. env ++ record { name = name; meaning = Several ms } ∷ [])
        (ap (list_members b spans) (zero-add (length names)) ∙ none) in
        let one_each = laid.one_each in
        let more_names = length-append names (name ∷ []) in
        let more_places = length-append places (Many ∷ []) in
        rw (h.1, h.2) (record {
          once = subst EachNameOnce (sym entries) (once-push env e laid.once absent);
          same = grind (arith, with_member-append, e, absent, with_member-same, itself, with_member-new);
          placed = All-push (IsPlace b) places Many laid.placed tt;
          one_each = omega arith;
          known = All-weaker (λ s. s.list < length names) (λ s. s.list < length (names ++ name ∷ [])) (λ s below. omega arith) spans laid.known;
          no_text = ap (λ o. is_some (text_in o)) (look_up-lacking b spans names places name laid h.0);
        })

-- ---- a member

own_members : (b t : Text) (spans : List Span) (s : Span) (new : List Span) → All (IsPiece b) spans → IsPutLast spans s new → s.part.start ≡ length b
    → s.part.len ≡ length t → list_members (b ++ t) new s.list ≡ list_members b spans s.list ++ t ∷ []
own_members b t spans s new pieces put start len = grind (arith, map-append, members_stay, last_part)

pub add_is : (b t : Text) (spans : List Span) (names : List Text) (places : List Place) (name : Text) (names' : List Text) (places' : List Place) (s : Span)
    (new : List Span) → IsLaid b spans names places → HasList names places name names' places' s.list → IsPutLast spans s new
    → s.part.start ≡ length b → s.part.len ≡ length t → laid_entries (b ++ t) new names' places' ≡ with_member (laid_entries b spans names places) name t
add_is b t spans names places name names' places' s new laid has put start len =
    let is = ready b t spans names places name names' places' s.list laid has in
    let m = list_members b spans in
    let m' = list_members (b ++ t) new in
    let zero = zero-add s.list in
    entries_stay b t m' m' 0 names' places' is.placed (λ j from. refl)
    ∙ with_member-at b t m m' 0 names' places' name s.list is.once has.named has.is_list
    (subst (λ j. m' j ≡ m j ++ t ∷ []) (sym zero) (own_members b t spans s new laid.pieces put start len))
    (λ j differs. ap (map (span_bytes (b ++ t))) (put.others j (ap (λ x. x == j) (sym zero) ∙ differs)) ∙ members_stay b t spans j laid.pieces)
    ∙ is.same

pub laid_add : (b t : Text) (spans : List Span) (names : List Text) (places : List Place) (name : Text) (names' : List Text) (places' : List Place) (s : Span)
    (new : List Span) → IsUtf8 b → IsUtf8 t → IsLaid b spans names places → HasList names places name names' places' s.list → IsPutLast spans s new
    → s.part.start ≡ length b → s.part.len ≡ length t → length b + length t ≤ MAX_BYTES → length spans + 1 ≤ MAX_MEMBERS → IsLaid (b ++ t) new names' places'
laid_add b t spans names places name names' places' s new ub ut laid has put start len few few_spans =
    let env = laid_entries b spans names places in
    let is = ready b t spans names places name names' places' s.list laid has in
    let entries = add_is b t spans names places name names' places' s new laid has put start len in
    let whole = length-append b t in
    let longer : length new ≡ length spans + 1 = ap length put.is ∙ length-insert spans put.place s put.within in
    let bytes : byte_count (laid_entries (b ++ t) new names' places') ≡ byte_count env + length t =
    ap byte_count entries ∙ byte_count-with_member env name t is.no_text in
    let members : member_count (laid_entries (b ++ t) new names' places') ≡ member_count env + 1 =
    ap member_count entries ∙ member_count-with_member env name t is.no_text in
    let filled = laid.filled in
    let counted = laid.counted in
    let moved : (P : Span → Type 0) → P s → All P spans
    → All P new = λ P own all. subst (All P) (sym put.is)
    (All-permutation P (s ∷ spans) (insert spans put.place s) (IsPermutation-insert spans put.place s) (All-cons P s spans own all)) in
    record {
      pieces = moved (IsPiece (b ++ t)) (last_is_part b t s.part ut start len) (pieces_stay b t spans ub ut laid.pieces);
      placed = places_stay b t places' ub ut is.placed;
      one_each = is.one_each;
      in_order = put.in_order;
      known = moved (λ x. x.list < length names') (slice_get_within names' s.list name has.named) is.known;
      filled = omega arith;
      counted = omega arith;
      once = subst EachNameOnce (sym entries) (once-with_member env name t laid.once);
      few_bytes = omega arith;
      few_members = omega arith;
    }
