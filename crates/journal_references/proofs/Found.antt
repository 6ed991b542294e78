-- What the table of forms says of each reference.
use Rattle.std.proofs.Common.{◌≡◌, ℕ, zero, suc, ◌+◌, List, [], ◌∷◌, Bool, true, false, ◌||◌, ◌&&◌, cond, Option, Some, None, take, drop, length}
use Rattle.std.proofs.Common.{refl, sym, ◌∙◌, subst}
use Rattle.std.specs.Prelude.{is_some}
use Rattle.std.specs.List.{list_all, list_any}
use Rattle.std.specs.Option.{option_map}
use Rattle.std.proofs.lemmas.Bool.{and_parts}
use Rattle.std.proofs.lemmas.Option.{same_Some}
use Rattle.text_model.specs.Texts.{Text}
use Rattle.journal_references.specs.declared.pieces.Piece.TheVariants.{Volume, Plain, Issue, PlainIssue, Inner, Pages, Year, Days}
use Rattle.journal_references.specs.declared.parts.Part.{Part}
use Rattle.journal_references.specs.declared.parts.Part.TheVariants.{Sign, Mark, Closing, Title, Month, Date, NoDay, Needed, Maybe, Read}
use Rattle.journal_references.specs.declared.groups.Group.{Group}
use Rattle.journal_references.specs.Pieces.{last}
use Rattle.journal_references.specs.Parts.{Match, unread, with_part}
use Rattle.journal_references.specs.Forms.{parts, forms, match_groups, first_match, match_form}
use Rattle.journal_references.specs.Forms as forms_spec
use Rattle.journal_references.specs.References.{Reference, is_inside, tight, reference_of, reference_at, first_reference, or_other}
use Rattle.journal_references.specs.References.{may_have_one, reference_in}
use Rattle.journal_references.proofs.Beginnings.{is_firm}
use Rattle.journal_references.proofs.Kept.{some_part, IsReadBy}

-- ---- what each form has

abbrev pub reads_volume : Part → Bool
reads_volume (Read Volume) = true
reads_volume (Read Plain) = true
reads_volume _ = false

abbrev pub reads_place : Part → Bool
reads_place (Read Issue) = true
reads_place (Read PlainIssue) = true
reads_place (Read Inner) = true
reads_place (Read Pages) = true
reads_place _ = false

-- words and a date, and then a piece that begins with a digit
abbrev pub begins : List Part → Bool
begins [] = false
begins (Needed word ∷ list) = begins list
begins (Maybe word ∷ list) = begins list
begins (Date ∷ list) = begins list
begins (Read piece ∷ list) = is_firm piece
begins _ = false

abbrev pub begins_well : List Group → Bool
begins_well [] = false
begins_well (group ∷ form) = begins (parts group)

abbrev pub has_part : (Part → Bool) → List Group → Bool
has_part reads form = list_any (λ group. list_any reads (parts group)) form

abbrev pub is_sound : List Group → Bool
is_sound form = begins_well form && (has_part reads_volume form && has_part reads_place form)

pub all_sound : list_all is_sound forms ≡ true
all_sound = refl

-- ---- the form of a match

pub record IsOf (test : List Group → Bool) (t : Text) (m : Match) : Type 0 where
  pub form : List Group
  pub passes : test form ≡ true
  pub matches : match_groups form (unread t) ≡ Some m

pub form_of : (test : List Group → Bool) (list : List (List Group)) (t : Text) (m : Match) → list_all test list ≡ true → first_match list t ≡ Some m
    → IsOf test t m
form_of test [] t m all h = cc
form_of test (form ∷ list) t m all h =
    by_match (match_groups form (unread t)) refl h (form_of test list t m (and_parts (test form) (list_all test list) all).1)
  where
    by_match : (o : Option Match) → match_groups form (unread t) ≡ o → forms_spec.or_other o (first_match list t) ≡ Some m
        → (first_match list t ≡ Some m → IsOf test t m) → IsOf test t m
    by_match None e g others = others g
    by_match (Some u) e g others = record {
      form = form;
      passes = (and_parts (test form) (list_all test list) all).0;
      matches = e ∙ g;
    }

-- ---- the place of a reference

pub record IsFound (text : Text) (r : Reference) : Type 0 where
  pub at : ℕ
  pub form : List Group
  pub found : Match
  pub sound : is_sound form ≡ true
  pub matches : match_groups form (unread (drop at text)) ≡ Some found
  pub is : r ≡ reference_of (tight (take at text)) found

found_at : (text : Text) (n : ℕ) (r : Reference) → reference_at text n ≡ Some r → IsFound text r
found_at text n r h = by_inside (is_inside (last (take n text))) h
  where
    by_match : (o : Option Match) → match_form (drop n text) ≡ o → option_map (reference_of (tight (take n text))) o ≡ Some r → IsFound text r
    by_match None e g = cc
    by_match (Some m) e g =
        let of = form_of is_sound forms (drop n text) m all_sound e in
        record {
          at = n;
          form = of.form;
          found = m;
          sound = of.passes;
          matches = of.matches;
          is = sym (same_Some (reference_of (tight (take n text)) m) r g);
        }

    by_inside : (c : Bool) → option_map (reference_of (tight (take n text))) (cond c None (match_form (drop n text))) ≡ Some r → IsFound text r
    by_inside true g = cc
    by_inside false g = by_match (match_form (drop n text)) refl g

pub found_from : (text : Text) (left n : ℕ) (r : Reference) → first_reference text n left ≡ Some r → IsFound text r
found_from text zero n r h = cc
found_from text (suc left) n r h = by_one (reference_at text n) refl h (found_from text left (n + 1) r)
  where
    by_one : (o : Option Reference) → reference_at text n ≡ o → or_other o (first_reference text (n + 1) left) ≡ Some r
        → (first_reference text (n + 1) left ≡ Some r → IsFound text r) → IsFound text r
    by_one None e g others = others g
    by_one (Some u) e g others = found_at text n r (e ∙ g)

pub found_in : (text : Text) (r : Reference) → reference_in text ≡ Some r → IsFound text r
found_in text r h = by_test (may_have_one text) h
  where
    by_test : (c : Bool) → cond c (first_reference text 0 (length text)) None ≡ Some r → IsFound text r
    by_test true g = found_from text (length text) 0 r g
    by_test false g = cc

-- ---- parts are read

same : (x : Bool) → (x || false) ≡ true → x ≡ true
same true h = refl
same false h = h

abbrev pub has_volume : Match → Bool
has_volume m = is_some m.volume

abbrev pub has_place : Match → Bool
has_place m = is_some m.issue || is_some m.pages

with_volume : (part : Part) (taken rest : Text) (m : Match) → (has_volume m || reads_volume part) ≡ true
    → has_volume (with_part part taken rest m) ≡ true
with_volume (Sign sign) taken rest m h = same _ h
with_volume Mark taken rest m h = same _ h
with_volume Closing taken rest m h = same _ h
with_volume Title taken rest m h = same _ h
with_volume Month taken rest m h = same _ h
with_volume Date taken rest m h = same _ h
with_volume NoDay taken rest m h = same _ h
with_volume (Needed word) taken rest m h = same _ h
with_volume (Maybe word) taken rest m h = same _ h
with_volume (Read Volume) taken rest m h = refl
with_volume (Read Plain) taken rest m h = refl
with_volume (Read Issue) taken rest m h = same _ h
with_volume (Read PlainIssue) taken rest m h = same _ h
with_volume (Read Inner) taken rest m h = same _ h
with_volume (Read Pages) taken rest m h = same _ h
with_volume (Read Year) taken rest m h = same _ h
with_volume (Read Days) taken rest m h = same _ h

or_true : (x : Bool) → (x || true) ≡ true
or_true true = refl
or_true false = refl

with_place : (part : Part) (taken rest : Text) (m : Match) → (has_place m || reads_place part) ≡ true
    → has_place (with_part part taken rest m) ≡ true
with_place (Sign sign) taken rest m h = same _ h
with_place Mark taken rest m h = same _ h
with_place Closing taken rest m h = same _ h
with_place Title taken rest m h = same _ h
with_place Month taken rest m h = same _ h
with_place Date taken rest m h = same _ h
with_place NoDay taken rest m h = same _ h
with_place (Needed word) taken rest m h = same _ h
with_place (Maybe word) taken rest m h = same _ h
with_place (Read Volume) taken rest m h = same _ h
with_place (Read Plain) taken rest m h = same _ h
with_place (Read Issue) taken rest m h = refl
with_place (Read PlainIssue) taken rest m h = refl
with_place (Read Inner) taken rest m h = refl
with_place (Read Pages) taken rest m h = or_true (is_some m.issue)
with_place (Read Year) taken rest m h = same _ h
with_place (Read Days) taken rest m h = same _ h

pub volume_read : IsReadBy has_volume reads_volume
volume_read part m r h some =
    let taken = some_part part m r h in
    subst (λ x. has_volume x ≡ true) (sym taken.whole) (with_volume part (take taken.n m.rest) (drop taken.n m.rest) m some)

pub place_read : IsReadBy has_place reads_place
place_read part m r h some =
    let taken = some_part part m r h in
    subst (λ x. has_place x ≡ true) (sym taken.whole) (with_place part (take taken.n m.rest) (drop taken.n m.rest) m some)
