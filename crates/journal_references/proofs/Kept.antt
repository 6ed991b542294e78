-- What stays while parts of forms match.
use Rattle.std.proofs.Common.{◌≡◌, ℕ, ◌+◌, List, [], ◌∷◌, Bool, true, false, ◌||◌, ◌⊎◌, inl, inr, Option, Some, None, take, drop}
use Rattle.std.proofs.Common.{refl, sym, ap, ◌∙◌, subst}
use Rattle.std.specs.Prelude.{IfSome}
use Rattle.std.specs.List.{list_any}
use Rattle.std.specs.Option.{option_map}
use Rattle.std.specs.Str.{IsAscii}
use Rattle.std.proofs.lemmas.Bool.{or_cases, or_left, or_right}
use Rattle.std.proofs.lemmas.List.{drop-drop}
use Rattle.std.proofs.lemmas.Option.{same_Some, option_and_then_some}
use Rattle.text_model.specs.Texts.{Text}
use Rattle.journal_references.specs.declared.pieces.Piece.{Piece}
use Rattle.journal_references.specs.declared.pieces.Piece.TheVariants.{Volume, Plain, Issue, PlainIssue, Inner, Pages, Year, Days}
use Rattle.journal_references.specs.declared.parts.Part.{Part}
use Rattle.journal_references.specs.declared.parts.Part.TheVariants.{Sign, Mark, Closing, Title, Month, Date, NoDay, Needed, Maybe, Read}
use Rattle.journal_references.specs.declared.groups.Group.{Group}
use Rattle.journal_references.specs.Pieces.{piece_length}
use Rattle.journal_references.specs.Parts.{Match, part_length, with_piece, with_part, match_part, match_parts}
use Rattle.journal_references.specs.Forms.{parts, match_groups}
use Rattle.journal_references.specs.References.{IsPartOf}
use Rattle.journal_references.proofs.Beginnings.{piece_ascii}

-- ---- one part

pub record IsTaken (part : Part) (m r : Match) : Type 0 where
  pub n : ℕ
  pub is : part_length part m.rest ≡ Some n
  pub whole : r ≡ with_part part (take n m.rest) (drop n m.rest) m

pub some_part : (part : Part) (m r : Match) → match_part part m ≡ Some r → IsTaken part m r
some_part part m r h = by_length (part_length part m.rest) refl h
  where
    by_length : (o : Option ℕ) → part_length part m.rest ≡ o
        → option_map (λ n. with_part part (take n m.rest) (drop n m.rest) m) o ≡ Some r → IsTaken part m r
    by_length None e g = cc
    by_length (Some n) e g = record { n = n; is = e; whole = sym (same_Some (with_part part (take n m.rest) (drop n m.rest) m) r g) }

-- ---- a property that each part keeps

abbrev Keeps : (Match → Type 0) → Type 0
Keeps P = (part : Part) (m r : Match) → match_part part m ≡ Some r → P m → P r

parts_keep : (P : Match → Type 0) → Keeps P → (list : List Part) (m r : Match) → match_parts list m ≡ Some r → P m → P r
parts_keep P each [] m r h p = subst P (same_Some m r h) p
parts_keep P each (part ∷ list) m r h p =
    option_and_then_some (match_parts list) (match_part part m) r h (λ u e g. parts_keep P each list u r g (each part m u e p))

groups_keep : (P : Match → Type 0) → Keeps P → (form : List Group) (m r : Match) → match_groups form m ≡ Some r → P m → P r
groups_keep P each [] m r h p = subst P (same_Some m r h) p
groups_keep P each (group ∷ form) m r h p =
    option_and_then_some (match_groups form) (match_parts (parts group) m) r h
    (λ u e g. groups_keep P each form u r g (parts_keep P each (parts group) m u e p))

-- ---- pieces are parts of the text, in ASCII

pub record IsGood (text piece : Text) : Type 0 where
  pub part : IsPartOf text piece
  pub ascii : IsAscii piece

pub record IsFine (text : Text) (m : Match) : Type 0 where
  pub at : ℕ
  pub rest : m.rest ≡ drop at text
  pub volume : IfSome m.volume (IsGood text)
  pub issue : IfSome m.issue (IsGood text)
  pub pages : IfSome m.pages (IsGood text)
  pub year : IfSome m.year (IsGood text)

rest_fine : (text : Text) (m : Match) (n : ℕ) → IsFine text m → IsFine text (record m { rest = drop n m.rest })
rest_fine text m n is = record {
  at = is.at + n;
  rest = ap (drop n) is.rest ∙ drop-drop n is.at text;
  volume = is.volume;
  issue = is.issue;
  pages = is.pages;
  year = is.year;
}

piece_fine : (piece : Piece) (text : Text) (m : Match) (n : ℕ) → IsGood text (take n m.rest) → IsFine text (record m { rest = drop n m.rest })
    → IsFine text (with_piece piece (take n m.rest) (drop n m.rest) m)
piece_fine Volume text m n good is = record { at = is.at; rest = is.rest; volume = good; issue = is.issue; pages = is.pages; year = is.year }
piece_fine Plain text m n good is = record { at = is.at; rest = is.rest; volume = good; issue = is.issue; pages = is.pages; year = is.year }
piece_fine Issue text m n good is = record { at = is.at; rest = is.rest; volume = is.volume; issue = good; pages = is.pages; year = is.year }
piece_fine PlainIssue text m n good is = record { at = is.at; rest = is.rest; volume = is.volume; issue = good; pages = is.pages; year = is.year }
piece_fine Inner text m n good is = record { at = is.at; rest = is.rest; volume = is.volume; issue = good; pages = is.pages; year = is.year }
piece_fine Pages text m n good is = record { at = is.at; rest = is.rest; volume = is.volume; issue = is.issue; pages = good; year = is.year }
piece_fine Year text m n good is = record { at = is.at; rest = is.rest; volume = is.volume; issue = is.issue; pages = is.pages; year = good }
piece_fine Days text m n good is = is

is_good : (piece : Piece) (text : Text) (m : Match) (n : ℕ) → piece_length piece m.rest ≡ Some n → IsFine text m → IsGood text (take n m.rest)
is_good piece text m n h is = record { part = (is.at, n, ap (take n) is.rest); ascii = piece_ascii piece m.rest n h }

taken_fine : (part : Part) (text : Text) (m : Match) (n : ℕ) → part_length part m.rest ≡ Some n → IsFine text m
    → IsFine text (with_part part (take n m.rest) (drop n m.rest) m)
taken_fine (Sign sign) text m n h is = rest_fine text m n is
taken_fine Mark text m n h is = rest_fine text m n is
taken_fine Closing text m n h is = rest_fine text m n is
taken_fine Title text m n h is = rest_fine text m n is
taken_fine Month text m n h is = rest_fine text m n is
taken_fine Date text m n h is = rest_fine text m n is
taken_fine NoDay text m n h is = rest_fine text m n is
taken_fine (Needed word) text m n h is = rest_fine text m n is
taken_fine (Maybe word) text m n h is = rest_fine text m n is
taken_fine (Read piece) text m n h is = piece_fine piece text m n (is_good piece text m n h is) (rest_fine text m n is)

part_fine : (text : Text) → Keeps (IsFine text)
part_fine text part m r h is =
    let taken = some_part part m r h in
    subst (IsFine text) (sym taken.whole) (taken_fine part text m taken.n taken.is is)

pub all_fine : (text : Text) (form : List Group) (m r : Match) → match_groups form m ≡ Some r → IsFine text m → IsFine text r
all_fine text form m r h is = groups_keep (IsFine text) (part_fine text) form m r h is

-- ---- what one of the parts reads is read

-- the match has something, or the part reads it; then it has it with the part
abbrev pub IsReadBy : (Match → Bool) → (Part → Bool) → Type 0
IsReadBy has reads = (part : Part) (m r : Match) → match_part part m ≡ Some r → (has m || reads part) ≡ true → has r ≡ true

or_or : (x y z : Bool) → (x || (y || z)) ≡ true → ((x || y) ≡ true) ⊎ (z ≡ true)
or_or true y z h = inl refl
or_or false y z h = or_cases y z h

parts_read : (has : Match → Bool) (reads : Part → Bool) → IsReadBy has reads → (list : List Part) (m r : Match)
    → match_parts list m ≡ Some r → (has m || list_any reads list) ≡ true → has r ≡ true
parts_read has reads each [] m r h some = subst (λ x. has x ≡ true) (same_Some m r h) (alone (has m) some)
  where
    alone : (x : Bool) → (x || false) ≡ true → x ≡ true
    alone true h = refl
    alone false h = h
parts_read has reads each (part ∷ list) m r h some =
    option_and_then_some (match_parts list) (match_part part m) r h
    (λ u e g. parts_read has reads each list u r g (next u e (or_or (has m) (reads part) (list_any reads list) some)))
  where
    next : (u : Match) → match_part part m ≡ Some u → ((has m || reads part) ≡ true) ⊎ (list_any reads list ≡ true)
        → (has u || list_any reads list) ≡ true
    next u e (inl here) = or_left (has u) (list_any reads list) (each part m u e here)
    next u e (inr later) = or_right (has u) (list_any reads list) later

pub groups_read : (has : Match → Bool) (reads : Part → Bool) → IsReadBy has reads → (form : List Group) (m r : Match)
    → match_groups form m ≡ Some r → (has m || list_any (λ group. list_any reads (parts group)) form) ≡ true → has r ≡ true
groups_read has reads each [] m r h some = parts_read has reads each [] m r h some
groups_read has reads each (group ∷ form) m r h some =
    option_and_then_some (match_groups form) (match_parts (parts group) m) r h
    (λ u e g.
    groups_read has reads each form u r g
    (next u e (or_or (has m) (list_any reads (parts group)) (list_any (λ group. list_any reads (parts group)) form) some)))
  where
    next : (u : Match) → match_parts (parts group) m ≡ Some u
        → ((has m || list_any reads (parts group)) ≡ true) ⊎ (list_any (λ group. list_any reads (parts group)) form ≡ true)
        → (has u || list_any (λ group. list_any reads (parts group)) form) ≡ true
    next u e (inl here) = or_left (has u) _ (parts_read has reads each (parts group) m u e here)
    next u e (inr later) = or_right (has u) _ later
