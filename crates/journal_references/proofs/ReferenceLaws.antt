-- What follows for references.
use Rattle.std.proofs.Common.{◌≡◌, ℕ, ◌<◌, Bool, true, false, ◌||◌, ◌&&◌, cond, Option, Some, None, length, drop, take}
use Rattle.std.proofs.Common.{refl, sym, ap, ◌∙◌, subst, arith}
use Rattle.std.specs.Prelude.{IfSome, is_some, nat_le}
use Rattle.std.specs.Char.{is_ascii_digit}
use Rattle.std.specs.List.{list_any}
use Rattle.std.specs.Str.{IsAscii, IsUtf8}
use Rattle.std.proofs.lemmas.Bool.{and_parts}
use Rattle.std.proofs.lemmas.Bool.Decides.{nat_tests}
use Rattle.std.proofs.lemmas.Str.{IsUtf8-from_ascii}
use Rattle.text_model.specs.Texts.{Text}
use Rattle.journal_references.specs.declared.places.Place.{Place}
use Rattle.journal_references.specs.Parts.{unread}
use Rattle.journal_references.specs.References.{Reference, IsPartOf, EachPiece, place_of, first_reference, reference_in}
use Rattle.journal_references.proofs.Kept.{IsGood, IsFine, all_fine, groups_read}
use Rattle.journal_references.proofs.Found.{IsFound, found_from, found_in, has_volume, has_place, reads_volume, reads_place, volume_read, place_read}
use Rattle.journal_references.proofs.Names.{name_front, name_utf8}

-- ---- no reference

too_long : (n : ℕ) → 500 < n → nat_le n 500 ≡ false
too_long n h = grind (arith, nat_tests)

pub long_none : (text : Text) → 500 < length text → reference_in text ≡ None
long_none text h = ap (λ c. cond (c && list_any is_ascii_digit text) (first_reference text 0 (length text)) None) (too_long (length text) h)

and_false : (c : Bool) → (c && false) ≡ false
and_false true = refl
and_false false = refl

pub digitless_none : (text : Text) → list_any is_ascii_digit text ≡ false → reference_in text ≡ None
digitless_none text h =
    ap (λ c. cond c (first_reference text 0 (length text)) None) (ap (λ c. nat_le (length text) 500 && c) h ∙ and_false (nat_le (length text) 500))

-- ---- the pieces

start_fine : (text : Text) (at : ℕ) → IsFine text (unread (drop at text))
start_fine text at = record { at = at; rest = refl; volume = tt; issue = tt; pages = tt; year = tt }

some_weaker : (P Q : Text → Type 0) (o : Option Text) → ((t : Text) → P t → Q t) → IfSome o P → IfSome o Q
some_weaker P Q None each h = tt
some_weaker P Q (Some t) each h = each t h

each_good : (P : Text → Type 0) (text : Text) (r : Reference) → IsFound text r → ((t : Text) → IsGood text t → P t) → EachPiece P r
each_good P text r is each =
    let fine = all_fine text is.form (unread (drop is.at text)) is.found is.matches (start_fine text is.at) in
    subst (EachPiece P) (sym is.is) (record {
      volume = some_weaker (IsGood text) P is.found.volume each fine.volume;
      issue = some_weaker (IsGood text) P is.found.issue each fine.issue;
      pages = some_weaker (IsGood text) P is.found.pages each fine.pages;
      year = some_weaker (IsGood text) P is.found.year each fine.year;
    })

pub pieces_part : (text : Text) (r : Reference) → reference_in text ≡ Some r → EachPiece (IsPartOf text) r
pieces_part text r h = each_good (IsPartOf text) text r (found_in text r h) (λ t good. good.part)

pub pieces_ascii : (text : Text) (r : Reference) → reference_in text ≡ Some r → EachPiece IsAscii r
pieces_ascii text r h = each_good IsAscii text r (found_in text r h) (λ t good. good.ascii)

pub name_begins : (text : Text) (r : Reference) → reference_in text ≡ Some r → (n : ℕ) × (r.name ≡ take n text)
name_begins text r h = name_front text r (found_in text r h)

pub name_is_utf8 : (text : Text) (r : Reference) → IsUtf8 text → reference_in text ≡ Some r → IsUtf8 r.name
name_is_utf8 text r utf8 h = name_utf8 text r (found_in text r h) utf8

-- ---- which there are

pub has_a_volume : (text : Text) (r : Reference) → reference_in text ≡ Some r → is_some r.volume ≡ true
has_a_volume text r h =
    let is = found_in text r h in
    ap (λ x. is_some x.volume) is.is
    ∙ groups_read has_volume reads_volume volume_read is.form (unread (drop is.at text)) is.found is.matches
    (and_parts _ _ (and_parts _ _ is.sound).1).0

pub has_a_place : (text : Text) (r : Reference) → reference_in text ≡ Some r → (is_some r.issue || is_some r.pages) ≡ true
has_a_place text r h =
    let is = found_in text r h in
    ap (λ x. is_some x.issue || is_some x.pages) is.is
    ∙ groups_read has_place reads_place place_read is.form (unread (drop is.at text)) is.found is.matches
    (and_parts _ _ (and_parts _ _ is.sound).1).1

-- ---- what the call finds

found_of : (place : Place) (text : Text) → Some (place_of place) ≡ first_reference text 0 (length text) → IsFound text (place_of place)
found_of place text e = found_from text (length text) 0 (place_of place) (sym e)

pub place_name : (place : Place) (text : Text) → IsUtf8 text → Some (place_of place) ≡ first_reference text 0 (length text)
    → IsUtf8 (place_of place).name
place_name place text utf8 e = name_utf8 text (place_of place) (found_of place text e) utf8

pub place_pieces : (place : Place) (text : Text) → Some (place_of place) ≡ first_reference text 0 (length text)
    → EachPiece IsUtf8 (place_of place)
place_pieces place text e = each_good IsUtf8 text (place_of place) (found_of place text e) (λ t good. IsUtf8-from_ascii t good.ascii)
