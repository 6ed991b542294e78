-- A registry with one more target.
use Rattle.std.proofs.Common.{◌≡◌, ◌≢◌, ℕ, ◌<◌, Bool, true, false, List, [], ◌∷◌, ◌++◌, ◌||◌, length, take, get_or, fold, is_some, refl, sym, ap}
use Rattle.std.proofs.Common.{◌∙◌, subst, arith}
use Rattle.std.proofs.lemmas.Bool.{false≢true}
use Rattle.std.proofs.lemmas.List.{length_push}
use Rattle.std.proofs.lemmas.List.Elements.{All-cons, All-nil, All-push}
use Rattle.std.proofs.lemmas.List.Sums.{fold-append}
use Rattle.std.proofs.Math.Bool.{or-true}
use Rattle.std.proofs.lemmas.List.Folds.{list_any_at}
use Rattle.std.proofs.lemmas.List.Quantifiers.{all_pairs_push}
use Rattle.std.proofs.lemmas.Slice.Eq.{bytes_eq-Decides}
use Rattle.std.specs.Prelude.{◌==◌}
use Rattle.std.specs.List.{AllZip}
use Rattle.std.specs.Str.{bytes_eq}
use Rattle.machine_model.specs.Safe.{IsSafe}
use Rattle.menu.specs.Contained.{IsTargetName}
use Rattle.text_model.specs.Texts.{Text}
use Rattle.kbart_rows.specs.Cells.{column_of}
use Rattle.kbart_rows.specs.NameSets.{NameSetValue, has, with_name, with_names}
use Rattle.kbart_rows.proofs.NameSetLemmas.{first_stay, has_columns, one_grows}
use Rattle.row_scope.specs.RequestValues.{AreAmong}
use Rattle.row_scope.specs.NameNumbers.{AreKept, with_code_names}
use Rattle.row_scope.proofs.NumberLemmas.{extended, first_again, names_of_code}
use Rattle.row_scope.specs.declared.name_columns.NameColumns.{NameColumns}
use Rattle.registry.specs.Targets.{TargetValue, IsRegistry, has_name}
use Rattle.registry.specs.Names.{AreAllAmong, AreAllNames, AreKeysOfFirst, AreNames, AreNamesOf, column_names}
use Rattle.registry.specs.declared.names.Names.{Names}
use Rattle.registry.specs.Refusals.{MayBeAdded}

-- none of the targets has a name that is new
others_differ : (targets : List TargetValue) (target : TargetValue) → has_name targets target.name ≡ false
    → (k : ℕ) (d : TargetValue) → k < length targets → (get_or targets k d).name ≢ target.name
others_differ targets target new k d within same =
    let found = list_any_at (λ other. bytes_eq other.name target.name) targets k d within ((bytes_eq-Decides (get_or targets k d).name target.name).1 same) in
    false≢true (sym new ∙ found)

with_one_more : (targets : List TargetValue) (target : TargetValue) → IsRegistry targets → IsSafe target.code → MayBeAdded targets target.name
    → IsRegistry (targets ++ target ∷ [])
with_one_more targets target known safe may =
    let room = may.0 in
    let free = may.1 in
    let long = length_push targets target in
    record {
      few = omega (arith, room, long);
      named = All-push (λ other. IsTargetName other.name) targets target known.named free.is_name;
      safe = All-push (λ other. IsSafe other.code) targets target known.safe safe;
      once = all_pairs_push (λ a b. a.name ≢ b.name) targets target known.once (others_differ targets target free.is_new);
    }

-- ---- the names of all targets

zip_push : {A B : Type 0} (R : A → B → Type 0) (xs : List A) (ys : List B) (x : A) (y : B) → AllZip R xs ys → R x y → AllZip R (xs ++ x ∷ []) (ys ++ y ∷ [])
zip_push R [] [] x y all one = (one, tt)
zip_push R [] (b ∷ ys) x y all one = absurd all
zip_push R (a ∷ xs) [] x y all one = absurd all
zip_push R (a ∷ xs) (b ∷ ys) x y all one = (all.0, zip_push R xs ys x y all.1 one)

places_kept : (old new : List Text) → AreKept old new → (targets : List TargetValue) (places : List NameColumns) → AreAllNames old targets places
    → AreAllNames new targets places
places_kept old new kept [] [] are = tt
places_kept old new kept [] (its ∷ places) are = absurd are
places_kept old new kept (target ∷ targets) [] are = absurd are
places_kept old new kept (target ∷ targets) (its ∷ places) are =
    let own = are.0.own in (
      record { columns = are.0.columns; own = record { one_each = own.one_each; are = λ i number is. kept _ number (own.are i number is) } },
      places_kept old new kept targets places are.1,
    )

-- the columns of each table are among the names of all columns, since names are only added
among_more : (names : List Text) (targets : List TargetValue) (name : Text) → has names name ≡ true
    → has (fold (λ so_far target. with_names so_far target.table.header) names targets) name ≡ true
among_more names [] name there = there
among_more names (target ∷ targets) name there =
    among_more (with_names names target.table.header) targets name
    (has_columns names target.table.header name ∙ ap (λ found. found || is_some (column_of target.table.header name)) there)

among_all : (names : List Text) (targets : List TargetValue)
    → AreAllAmong (fold (λ so_far target. with_names so_far target.table.header) names targets) targets
among_all names [] = All-nil (λ target. AreAmong names target.table.header)
among_all names (target ∷ targets) =
    let header = target.table.header in
    let columns = fold (λ (so_far : List Text) (other : TargetValue). with_names so_far other.table.header) (with_names names header) targets in
    All-cons (λ other. AreAmong columns other.table.header) target targets
    (λ name found.
    among_more (with_names names header) targets name
    (has_columns names header name ∙ ap (λ there. has names name || there) found ∙ or-true (has names name)))
    (among_all (with_names names header) targets)

pub all_among : (targets : List TargetValue) → AreAllAmong (column_names targets) targets
all_among targets = among_all [] targets

no_places : (old new : List Text) (places : List NameColumns) → AreAllNames old [] places → AreAllNames new [] places
no_places old new [] are = tt
no_places old new (its ∷ places) are = absurd are

-- what is kept of the names, and the keys of the first target, of which there may be none before this one
pub record AreKeyed (targets : List TargetValue) (target : TargetValue) (names : Names) (places : List NameColumns) : Type 0 where
  pub are : AreNames targets names.columns names.numbered places
  pub columns : AreKeysOfFirst names.columns.keys (targets ++ target ∷ [])
  pub numbers : AreKeysOfFirst names.numbered.keys (targets ++ target ∷ [])

pub keyed : (targets : List TargetValue) (target : TargetValue) (old new : Names) (places : List NameColumns) (is_first : Bool)
    → is_first ≡ (length targets == 0)
    → (is_first ≡ true → new ≡ record {
      columns = record { names = []; keys = target.table.keys };
      numbered = record { names = []; keys = target.table.keys };
    })
    → (is_first ≡ false → new ≡ old) → AreNames targets old.columns old.numbered places → AreKeyed targets target new places
keyed [] target old new places is_first is first others are =
    let e = first is in
    record {
      are = record {
        column_names = ap (λ (names : Names). names.columns.names) e;
        numbered_names = ap (λ (names : Names). names.numbered.names) e;
        column_keys = tt;
        number_keys = tt;
        places = no_places old.numbered.names new.numbered.names places are.places;
      };
      columns = ap (λ (names : Names). names.columns.keys) e;
      numbers = ap (λ (names : Names). names.numbered.keys) e;
    }
keyed (first_target ∷ targets) target old new places is_first is first others are =
    let e : new ≡ old = others (grind (arith, is)) in
    subst (λ names. AreKeyed (first_target ∷ targets) target names places) (sym e) (record { are = are; columns = are.column_keys; numbers = are.number_keys })

-- the names after those of one more target were added
with_its_names : (targets : List TargetValue) (target : TargetValue) (old new : Names) (places : List NameColumns) (its : NameColumns)
    → AreKeyed targets target old places
    → new.columns ≡ record { names = with_names old.columns.names target.table.header; keys = old.columns.keys }
    → new.numbered ≡ record { names = with_code_names old.numbered.names target.code; keys = old.numbered.keys }
    → AreKept old.numbered.names new.numbered.names → AreNamesOf new.numbered.names target its
    → AreNames (targets ++ target ∷ []) new.columns new.numbered (places ++ its ∷ [])
with_its_names targets target old new places its keyed columns numbered kept one =
    let are = keyed.are in
    let add_columns = λ (names : List Text) (other : TargetValue). with_names names other.table.header in
    let add_numbers = λ (names : List Text) (other : TargetValue). with_code_names names other.code in
    record {
      column_names =
          ap (λ (set : NameSetValue). set.names) columns ∙ ap (λ (names : List Text). with_names names target.table.header) are.column_names
          ∙ sym (fold-append add_columns [] targets (target ∷ []));
      numbered_names =
          ap (λ (set : NameSetValue). set.names) numbered ∙ ap (λ (names : List Text). with_code_names names target.code) are.numbered_names
          ∙ sym (fold-append add_numbers [] targets (target ∷ []));
      column_keys = subst (λ keys. AreKeysOfFirst keys (targets ++ target ∷ [])) (sym (ap (λ (set : NameSetValue). set.keys) columns)) keyed.columns;
      number_keys = subst (λ keys. AreKeysOfFirst keys (targets ++ target ∷ [])) (sym (ap (λ (set : NameSetValue). set.keys) numbered)) keyed.numbers;
      places = zip_push (AreNamesOf new.numbered.names) targets places target its
          (places_kept old.numbered.names new.numbered.names kept targets places are.places) one;
    }

-- the names after those of one more target were added and dropped again
as_before : (target : TargetValue) (old new back : Names)
    → new.columns ≡ record { names = with_names old.columns.names target.table.header; keys = old.columns.keys }
    → new.numbered ≡ record { names = with_code_names old.numbered.names target.code; keys = old.numbered.keys }
    → back.columns ≡ record { names = take (length old.columns.names) new.columns.names; keys = new.columns.keys }
    → back.numbered ≡ record { names = take (length old.numbered.names) new.numbered.names; keys = new.numbered.keys }
    → back ≡ old
as_before target old new back columns numbered columns_back numbered_back =
    let same_columns : back.columns ≡ old.columns =
    columns_back ∙ ap (λ (set : NameSetValue). record { names = take (length old.columns.names) set.names; keys = set.keys }) columns
    ∙ ap (λ (names : List Text). record { names = names; keys = old.columns.keys }) (first_stay with_name one_grows old.columns.names target.table.header) in
    let same_numbers : back.numbered ≡ old.numbered =
    numbered_back ∙ ap (λ (set : NameSetValue). record { names = take (length old.numbered.names) set.names; keys = set.keys }) numbered
    ∙ ap (λ (names : List Text). record { names = names; keys = old.numbered.keys })
    (first_again old.numbered.names (with_code_names old.numbered.names target.code)
    (extended old.numbered.names (names_of_code target.code) (with_code_names old.numbered.names target.code) refl)) in
    λ j. record { columns = same_columns j; numbered = same_numbers j }

-- the registry with one more target
pub added : (targets : List TargetValue) (target : TargetValue) (old new : Names) (places : List NameColumns) (its : NameColumns)
    (now : List TargetValue) (now_places : List NameColumns) → IsRegistry targets → IsSafe target.code → MayBeAdded targets target.name
    → AreKeyed targets target old places
    → new.columns ≡ record { names = with_names old.columns.names target.table.header; keys = old.columns.keys }
    → new.numbered ≡ record { names = with_code_names old.numbered.names target.code; keys = old.numbered.keys }
    → AreKept old.numbered.names new.numbered.names → AreNamesOf new.numbered.names target its
    → now ≡ targets ++ target ∷ [] → now_places ≡ places ++ its ∷ []
    → IsRegistry now × AreNames now new.columns new.numbered now_places
added targets target old new places its now now_places known safe may keyed columns numbered kept one is places_are =
    rw (is, places_are) (with_one_more targets target known safe may, with_its_names targets target old new places its keyed columns numbered kept one)

-- the registry without it again
pub not_added : (targets : List TargetValue) (target : TargetValue) (old new back : Names) (places : List NameColumns)
    (now : List TargetValue) (now_places : List NameColumns) → IsRegistry targets → AreKeyed targets target old places
    → new.columns ≡ record { names = with_names old.columns.names target.table.header; keys = old.columns.keys }
    → new.numbered ≡ record { names = with_code_names old.numbered.names target.code; keys = old.numbered.keys }
    → back.columns ≡ record { names = take (length old.columns.names) new.columns.names; keys = new.columns.keys }
    → back.numbered ≡ record { names = take (length old.numbered.names) new.numbered.names; keys = new.numbered.keys }
    → now ≡ targets → now_places ≡ places → IsRegistry now × AreNames now back.columns back.numbered now_places
not_added targets target old new back places now now_places known keyed columns numbered columns_back numbered_back is places_are =
    let same : back ≡ old = as_before target old new back columns numbered columns_back numbered_back in
    rw (is, places_are) (known, subst (λ (names : Names). AreNames targets names.columns names.numbered places) (sym same) keyed.are)
