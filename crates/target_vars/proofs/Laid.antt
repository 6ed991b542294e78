-- What a name denotes, given its number.
use Rattle.std.proofs.Common.{◌≡◌, ℕ, ◌+◌, List, [], ◌∷◌, false, map, length, take, drop, slice_get, get_or, Some, None}
use Rattle.std.proofs.Common.{All, refl, sym, ap, ◌∙◌, subst, arith, zero-add, inr}
use Rattle.std.specs.Prelude.{slice_range}
use Rattle.std.proofs.lemmas.List.{length-map, take-map, drop-map}
use Rattle.std.proofs.lemmas.List.Elements.{All-tail, All-map, All-get_or, All-weaker}
use Rattle.std.proofs.lemmas.Option.{slice_get-get_or, slice_get_within}
use Rattle.text_model.specs.Texts.{Text}
use Rattle.environment_model.specs.Environment.{look_up, is_there, is_among, text_in, text_of, members_in, members_of}
use Rattle.environment_model.proofs.NameTests.{undefined}
use Rattle.target_vars.specs.EnvValue.{EnvValue, piece_at, IsWithin, AreMembersAt, IsInOrder}
use Rattle.target_vars.specs.Layout.{at, span_bytes, list_members, meaning_in, laid_entries, laid_spans, IsPart, IsPiece, IsPieces, IsPlace, AreAdjacent}
use Rattle.target_vars.specs.Layout.{IsTextPart, IsLaid}
use Rattle.target_vars.specs.declared.place.Part.{Part}
use Rattle.target_vars.specs.declared.place.Span.{Span}
use Rattle.target_vars.specs.declared.place.Place.{Place}
use Rattle.target_vars.specs.declared.place.Place.TheVariants.{One, Many}
use Rattle.target_vars.proofs.Entries.{entries_from-empty, is_there-entries, look_up-at}

-- the value in contracts of the buffer, the spans, the names and the places
abbrev pub seen : Text → List Span → List Text → List Place → EnvValue
seen b spans names places = record { entries = laid_entries b spans names places; buffer = b; seam = 0; spans = laid_spans spans }

pub laid_entries-empty : laid_entries [] [] [] [] ≡ []
laid_entries-empty = entries_from-empty [] (list_members [] []) 0 []

pub laid_empty : IsLaid [] [] [] []
laid_empty = grind (arith, laid_entries-empty)

-- ---- look-ups

pub is_there-laid : (b : Text) (spans : List Span) (names : List Text) (places : List Place) (name : Text) → IsLaid b spans names places
    → is_there (laid_entries b spans names places) name ≡ is_among name names
is_there-laid b spans names places name laid = is_there-entries b (list_members b spans) 0 names places name laid.one_each

pub look_up-lacking : (b : Text) (spans : List Span) (names : List Text) (places : List Place) (name : Text) → IsLaid b spans names places
    → is_among name names ≡ false → look_up (laid_entries b spans names places) name ≡ None
look_up-lacking b spans names places name laid lacks =
    undefined (look_up (laid_entries b spans names places) name) (is_there-laid b spans names places name laid ∙ lacks)

pub look_up-laid : (b : Text) (spans : List Span) (names : List Text) (places : List Place) (name : Text) (k : ℕ) (p : Place) → IsLaid b spans names places
    → slice_get names k ≡ Some name → slice_get places k ≡ Some p
    → look_up (laid_entries b spans names places) name ≡ Some (meaning_in b (list_members b spans k) p)
look_up-laid b spans names places name k p laid named placed =
    look_up-at b (list_members b spans) 0 names places name k p laid.once named placed ∙ ap (λ j. Some (meaning_in b (list_members b spans j) p)) (zero-add k)

-- the place of a name's number
pub place_read : (names : List Text) (places : List Place) (name : Text) (k : ℕ) (p : Place) → length places ≡ length names → slice_get names k ≡ Some name
    → p ≡ get_or places k p → slice_get places k ≡ Some p
place_read names places name k p long named read = grind (arith, slice_get_within, slice_get-get_or)

-- ---- a text

-- no part of an `Env` crosses the seam, which is at the buffer's beginning
part_within : (b : Text) (spans : List Span) (names : List Text) (places : List Place) (part : Part) → IsPart b part
    → IsWithin (seen b spans names places) (at part)
part_within b spans names places part is = record { inside = is.ends.0; one_side = inr (omega arith) }

pub text_part : (b : Text) (spans : List Span) (names : List Text) (places : List Place) (name : Text) (k : ℕ) (part : Part) → IsLaid b spans names places
    → slice_get names k ≡ Some name → slice_get places k ≡ Some (One part)
    → IsTextPart (seen b spans names places) name part
text_part b spans names places name k part laid named placed =
    let below = slice_get_within places k (One part) placed in
    let here : get_or places k Many ≡ One part = some_is (sym (slice_get-get_or places k Many below) ∙ placed) in
    let is_part = subst (IsPlace b) here (All-get_or (IsPlace b) places k Many below laid.placed) in
    record {
      is_part = is_part;
      within = part_within b spans names places part is_part;
      is = ap text_in (look_up-laid b spans names places name k (One part) laid named placed);
    }
  where
    some_is : {x y : Place} → Some x ≡ Some y → x ≡ y
    some_is same = cc

pub no_text-at : (b : Text) (spans : List Span) (names : List Text) (places : List Place) (name : Text) (k : ℕ) → IsLaid b spans names places
    → slice_get names k ≡ Some name → slice_get places k ≡ Some Many
    → text_of (laid_entries b spans names places) name ≡ None
no_text-at b spans names places name k laid named placed = ap text_in (look_up-laid b spans names places name k Many laid named placed)

-- ---- a list

-- a name with no members
pub no_members : (env : EnvValue) (name : Text) → members_of env.entries name ≡ [] → AreMembersAt env name 0 0
no_members env name none = record { within = omega arith; are = none }

pub no_members-at : (b : Text) (spans : List Span) (names : List Text) (places : List Place) (name : Text) (k : ℕ) (part : Part) → IsLaid b spans names places
    → slice_get names k ≡ Some name → slice_get places k ≡ Some (One part)
    → AreMembersAt (seen b spans names places) name 0 0
no_members-at b spans names places name k part laid named placed =
    no_members (seen b spans names places) name (ap members_in (look_up-laid b spans names places name k (One part) laid named placed))

pub no_members-lacking : (b : Text) (spans : List Span) (names : List Text) (places : List Place) (name : Text) → IsLaid b spans names places
    → is_among name names ≡ false → AreMembersAt (seen b spans names places) name 0 0
no_members-lacking b spans names places name laid lacks =
    no_members (seen b spans names places) name (ap members_in (look_up-lacking b spans names places name laid lacks))

-- the pieces of spans, by their offsets and lengths
same_texts : (b : Text) (spans : List Span) → map (piece_at b) (laid_spans spans) ≡ map (span_bytes b) spans
same_texts b [] = refl
same_texts b (s ∷ ss) = ap (λ xs. span_bytes b s ∷ xs) (same_texts b ss)

laid_run : (b : Text) (spans : List Span) (first count : ℕ) → map (piece_at b) (take count (drop first (laid_spans spans)))
    ≡ map (span_bytes b) (take count (drop first spans))
laid_run b spans first count = grind (arith, drop-map, take-map, same_texts)

pub members_at : (b : Text) (spans : List Span) (names : List Text) (places : List Place) (name : Text) (k first count : ℕ) → IsLaid b spans names places
    → slice_get names k ≡ Some name → slice_get places k ≡ Some Many → AreAdjacent spans k first count
    → AreMembersAt (seen b spans names places) name first count
members_at b spans names places name k first count laid named placed run =
    let long = length-map spans (λ (s : Span). at s.part) in
    let within = run.within in
    record {
      within = omega arith;
      are = ap members_in (look_up-laid b spans names places name k Many laid named placed) ∙ ap (map (span_bytes b)) (sym run.is)
          ∙ sym (laid_run b spans first count);
    }

-- the members that are borrowed
pub members_lent : (b : Text) (spans : List Span) (env : EnvValue) (name : Text) (first count : ℕ) → env.buffer ≡ b → env.spans ≡ laid_spans spans
    → AreMembersAt env name first count → map (span_bytes b) (slice_range spans first (first + count)) ≡ members_of env.entries name
members_lent b spans env name first count buffer laid are = grind (arith, laid_run)

pub after_first : (b : Text) (s : Span) (spans : List Span) → IsPieces b (s ∷ spans) → IsPieces b spans
after_first b s spans h = record {
  pieces = All-tail (IsPiece b) s spans h.pieces;
  few_bytes = h.few_bytes;
  few = omega (arith, h.few);
}

-- ---- all spans

pub all_within : (b : Text) (spans : List Span) (names : List Text) (places : List Place) → All (IsPiece b) spans
    → All (IsWithin (seen b spans names places)) (laid_spans spans)
all_within b spans names places pieces =
    let env = seen b spans names places in
    All-map (IsWithin env) (λ (s : Span). at s.part) spans
    (All-weaker (IsPiece b) (λ (s : Span). IsWithin env (at s.part)) (λ s is. part_within b spans names places s.part is) spans pieces)

pub laid_in_order : (b : Text) (spans : List Span) (names : List Text) (places : List Place) → IsLaid b spans names places
    → IsInOrder (seen b spans names places)
laid_in_order b spans names places laid = record {
  buffer = laid.few_bytes;
  seam = omega arith;
  spans = let long = length-map spans (λ (s : Span). at s.part) in let few = laid.few_members in omega arith;
  inside = all_within b spans names places laid.pieces;
}
