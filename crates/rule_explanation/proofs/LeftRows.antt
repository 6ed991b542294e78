-- The text that is still to be written for rows that are tried one after another.
use Rattle.std.proofs.Common.{◌≡◌, ℕ, ◌+◌, Bool, true, false, List, [], ◌∷◌, ◌++◌, Some, None, Option, filter, refl, sym, ap, ◌∙◌, subst, nat_le, append_assoc}
use Rattle.std.specs.Io.KnownBytes.{Appends}
use Rattle.std.specs.List.{enumerate_from, flat_map, list_any}
use Rattle.std.proofs.KnownBytes.{Appends-nil, Appends-trans}
use Rattle.std.proofs.lemmas.List.{append-nil}
use Rattle.text_model.specs.Texts.{Text}
use Rattle.files.specs.Writing.{IsWrittenInPart}
use Rattle.kbart_rows.specs.Identifiers.{first_from}
use Rattle.rule_explanation.specs.Rows.{up_to_first}
use Rattle.kbart_rows.proofs.RowOrder.{Rise, all_from_start, first_and_rest, none_from}

module _ (text : ℕ × ℕ → Text) (test : ℕ → Bool) (rows : List ℕ) where
  -- the texts of the rows at or after one; the first of these rows has this place
  abbrev pub left : ℕ → ℕ → Text
  left place from = flat_map text (enumerate_from place (up_to_first test (filter (nat_le from) rows)))

  -- one of these rows passes
  abbrev pub any_left : ℕ → Bool
  any_left from = list_any test (filter (nat_le from) rows)

  pub all_left : left 1 0 ≡ flat_map text (enumerate_from 1 (up_to_first test rows))
  all_left = ap (λ rs. flat_map text (enumerate_from 1 (up_to_first test rs))) (all_from_start rows)

  pub any_of_all : any_left 0 ≡ list_any test rows
  any_of_all = ap (list_any test) (all_from_start rows)

  one_left : (rs others : List ℕ) (place row : ℕ) → rs ≡ row ∷ others → test row ≡ true
      → flat_map text (enumerate_from place (up_to_first test rs)) ≡ text (place, row) ++ []
  one_left rs others place row is pass = rw (is, pass) refl

  more_left : (rs others : List ℕ) (place row : ℕ) → rs ≡ row ∷ others → test row ≡ false
      → flat_map text (enumerate_from place (up_to_first test rs)) ≡ text (place, row) ++ flat_map text (enumerate_from (place + 1) (up_to_first test others))
  more_left rs others place row is fail = rw (is, fail) refl

  pub last_left : (place from row : ℕ) → Rise rows → first_from from rows ≡ Some row → test row ≡ true → left place from ≡ text (place, row) ++ []
  last_left place from row rise found pass = one_left _ _ place row (first_and_rest from row rows rise found) pass

  pub next_left : (place from row : ℕ) → Rise rows → first_from from rows ≡ Some row → test row ≡ false
      → left place from ≡ text (place, row) ++ left (place + 1) (row + 1)
  next_left place from row rise found fail = more_left _ _ place row (first_and_rest from row rows rise found) fail

  -- the text of the first of these rows, and then the others
  pub first_left : (place from row : ℕ) → Rise rows → first_from from rows ≡ Some row → (others : Text) × (left place from ≡ text (place, row) ++ others)
  first_left place from row rise found = by_test (test row) refl
    where
      by_test : (b : Bool) → test row ≡ b → (others : Text) × (left place from ≡ text (place, row) ++ others)
      by_test true pass = ([], last_left place from row rise found pass)
      by_test false fail = (left (place + 1) (row + 1), next_left place from row rise found fail)

  pub none_left : (place from : ℕ) → first_from from rows ≡ None → left place from ≡ []
  none_left place from none = ap (λ rs. flat_map text (enumerate_from place (up_to_first test rs))) (none_from from rows none)

  pub any_last : (from row : ℕ) → Rise rows → first_from from rows ≡ Some row → test row ≡ true → any_left from ≡ true
  any_last from row rise found pass = rw (first_and_rest from row rows rise found, pass) refl

  pub any_next : (from row : ℕ) → Rise rows → first_from from rows ≡ Some row → test row ≡ false → any_left from ≡ any_left (row + 1)
  any_next from row rise found fail = ap (list_any test) (first_and_rest from row rows rise found) ∙ rw fail refl

  pub any_none : (from : ℕ) → first_from from rows ≡ None → any_left from ≡ false
  any_none from none = ap (list_any test) (none_from from rows none)

-- ---- what is written

pub record Progress (old now : Option (List ℕ)) (whole rest : Text) : Type 0 where
  pub done : Text
  pub in_order : whole ≡ done ++ rest
  pub written : Appends old now done

pub nothing_done : (old : Option (List ℕ)) (whole : Text) → Progress old old whole whole
nothing_done old whole = record { done = []; in_order = refl; written = Appends-nil old }

pub one_done : (old now new : Option (List ℕ)) (whole rest t others : Text) → Progress old now whole rest → rest ≡ t ++ others → Appends now new t
    → Progress old new whole others
one_done old now new whole rest t others p is w =
    record {
      done = p.done ++ t;
      in_order = p.in_order ∙ ap (λ x. p.done ++ x) is ∙ sym (append_assoc p.done t others);
      written = Appends-trans old now new p.done t p.written w;
    }

pub all_done : (old now : Option (List ℕ)) (whole rest : Text) → Progress old now whole rest → rest ≡ [] → Appends old now whole
all_done old now whole rest p is =
    let same : whole ≡ p.done = p.in_order ∙ ap (λ x. p.done ++ x) is ∙ append-nil p.done in
    let P : Text → Type 0 = λ t. Appends old now t in subst P (sym same) p.written

pub in_part : (old now : Option (List ℕ)) (whole rest : Text) → Progress old now whole rest → IsWrittenInPart old now whole
in_part old now whole rest p = record { done = p.done; rest = rest; in_order = p.in_order; written = p.written }

pub part_done : (old now new : Option (List ℕ)) (whole rest t others : Text) → Progress old now whole rest → rest ≡ t ++ others
    → IsWrittenInPart now new t → IsWrittenInPart old new whole
part_done old now new whole rest t others p is w =
    record {
      done = p.done ++ w.done;
      rest = w.rest ++ others;
      in_order =
          p.in_order ∙ ap (λ x. p.done ++ x) (is ∙ ap (λ x. x ++ others) w.in_order ∙ append_assoc w.done w.rest others)
          ∙ sym (append_assoc p.done w.done (w.rest ++ others));
      written = Appends-trans old now new p.done w.done p.written w.written;
    }

-- ---- a row that is found and written

pub record Written {W : Type 0} (contents : W → Option (List ℕ)) (text : ℕ × ℕ → Text) (test : ℕ → Bool) (rows : List ℕ) (place from : ℕ)
    (old now : W) : Type 0 where
  pub text_left : Progress (contents old) (contents now) (left text test rows 1 0) (left text test rows place from)
  pub link_left : any_left text test rows from ≡ any_left text test rows 0

module _ {W : Type 0} (contents : W → Option (List ℕ)) (text : ℕ × ℕ → Text) (test : ℕ → Bool) (rows : List ℕ) where
  pub started : (old : W) → Written contents text test rows 1 0 old old
  started old = record { text_left = nothing_done (contents old) _; link_left = refl }

  -- a row without a web link
  pub next_row : (place from row : ℕ) (old now new : W) (t : Text) (found : Bool) → Written contents text test rows place from old now → Rise rows
      → first_from from rows ≡ Some row → t ≡ text (place, row) → found ≡ test row → found ≡ false → Appends (contents now) (contents new) t
      → Written contents text test rows (place + 1) (row + 1) old new
  next_row place from row old now new t found so_far rise first is answer fails written =
      let fail : test row ≡ false = sym answer ∙ fails in
      record {
        text_left =
            one_done (contents old) (contents now) (contents new) _ (left text test rows place from) t _ so_far.text_left
            (next_left text test rows place from row rise first fail ∙ ap (λ x. x ++ left text test rows (place + 1) (row + 1)) (sym is)) written;
        link_left = sym (any_next text test rows from row rise first fail) ∙ so_far.link_left;
      }

  -- the row with a web link
  pub last_row : (place from row : ℕ) (old now new : W) (t : Text) (found : Bool) → Written contents text test rows place from old now → Rise rows
      → first_from from rows ≡ Some row → t ≡ text (place, row) → found ≡ test row → found ≡ true → Appends (contents now) (contents new) t
      → Appends (contents old) (contents new) (flat_map text (enumerate_from 1 (up_to_first test rows))) × (list_any test rows ≡ true)
  last_row place from row old now new t found so_far rise first is answer passes written =
      let pass : test row ≡ true = sym answer ∙ passes in
      let done =
      one_done (contents old) (contents now) (contents new) _ (left text test rows place from) t [] so_far.text_left
      (last_left text test rows place from row rise first pass ∙ ap (λ x. x ++ []) (sym is)) written in
      let P : Text → Type 0 = λ whole. Appends (contents old) (contents new) whole in (
        subst P (all_left text test rows) (all_done (contents old) (contents new) _ [] done refl),
        sym (any_of_all text test rows) ∙ sym so_far.link_left ∙ any_last text test rows from row rise first pass,
      )

  -- no row is left
  pub no_row : (place from : ℕ) (old now : W) → Written contents text test rows place from old now → first_from from rows ≡ None
      → Appends (contents old) (contents now) (flat_map text (enumerate_from 1 (up_to_first test rows))) × (list_any test rows ≡ false)
  no_row place from old now so_far none =
      let P : Text → Type 0 = λ whole. Appends (contents old) (contents now) whole in (
        subst P (all_left text test rows) (all_done (contents old) (contents now) _ _ so_far.text_left (none_left text test rows place from none)),
        sym (any_of_all text test rows) ∙ sym so_far.link_left ∙ any_none text test rows from none,
      )

  -- a row that is not written
  pub rows_in_part : (place from : ℕ) (old now : W) → Written contents text test rows place from old now
      → IsWrittenInPart (contents old) (contents now) (flat_map text (enumerate_from 1 (up_to_first test rows)))
  rows_in_part place from old now so_far =
      let P : Text → Type 0 = λ whole. IsWrittenInPart (contents old) (contents now) whole in
      subst P (all_left text test rows) (in_part (contents old) (contents now) _ _ so_far.text_left)

  -- a row of which a beginning is written
  pub row_in_part : (place from row : ℕ) (old now new : W) (t : Text) → Written contents text test rows place from old now → Rise rows
      → first_from from rows ≡ Some row → t ≡ text (place, row) → IsWrittenInPart (contents now) (contents new) t
      → IsWrittenInPart (contents old) (contents new) (flat_map text (enumerate_from 1 (up_to_first test rows)))
  row_in_part place from row old now new t so_far rise first is written =
      let (others, begins) = first_left text test rows place from row rise first in
      let P : Text → Type 0 = λ whole. IsWrittenInPart (contents old) (contents new) whole in
      subst P (all_left text test rows)
      (part_done (contents old) (contents now) (contents new) _ (left text test rows place from) t others so_far.text_left
      (begins ∙ ap (λ x. x ++ others) (sym is)) written)
