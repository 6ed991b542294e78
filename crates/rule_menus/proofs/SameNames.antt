-- A name of the code of rules is a list in the code's environment exactly if it is one in the environment of the rules.
use Rattle.std.proofs.Common.{◌≡◌, ℕ, zero, suc, List, [], ◌∷◌, Some, Bool, true, false, refl, subst, slice_get, arith}
use Rattle.std.specs.Prelude.{◌||◌, filter, map, if◌then◌else◌}
use Rattle.std.specs.List.{AllByRecursion}
use Rattle.std.specs.Str.{bytes_eq}
use Rattle.std.proofs.lemmas.Bool.{or_right}
use Rattle.std.proofs.lemmas.List.Folds.{list_any-append}
use Rattle.std.proofs.lemmas.Slice.Eq.{bytes_eq-Decides}
use Rattle.std.proofs.lemmas.Grind.{common_steps}
use Rattle.text_model.specs.Texts.{Text}
use Rattle.text_model.proofs.TruthValues.{or_other}
use Rattle.environment_model.specs.Environment.{is_among}
use Rattle.environment_model.specs.Lists.{is_list, standard_lists}
use Rattle.code_model.specs.Code.{Name}

-- an entry of the table is of a list exactly if the rules declare its name as one
abbrev pub IsDeclared : List Text → Name → Type 0
IsDeclared lists name = is_list lists name.text ≡ name.list

-- the names of lists in a table
abbrev list_texts : List Name → List Text
list_texts names = map (λ name. name.text) (filter (λ name. name.list) names)

first_false : (a b : Bool) → (a || b) ≡ false → a ≡ false
first_false a b h = grind (arith, common_steps)

-- each entry of the table is at its index, declared
declared_at : (lists : List Text) (names : List Name) (k : ℕ) (name : Name) → AllByRecursion (IsDeclared lists) names → slice_get names k ≡ Some name
    → IsDeclared lists name
declared_at lists [] k name all at = absurd (cc)
declared_at lists (n ∷ names) zero name all at = let same : n ≡ name = cc in subst (IsDeclared lists) same all.0
declared_at lists (n ∷ names) (suc k) name all at = declared_at lists names k name all.1 at

-- a name with the kind of a list is among the lists of the table
among_lists : (names : List Name) (k : ℕ) (name : Name) → slice_get names k ≡ Some name → name.list ≡ true → is_among name.text (list_texts names) ≡ true
among_lists [] k name at list = absurd (cc)
among_lists (n ∷ names) zero name at list = grind (arith, bytes_eq-Decides)
among_lists (n ∷ names) (suc k) name at list = grind (arith, common_steps, among_lists names k name at list)

-- what is among the lists of the table is declared as a list
lists_declared : (lists : List Text) (names : List Name) (text : Text) → AllByRecursion (IsDeclared lists) names → is_among text (list_texts names) ≡ true
    → is_list lists text ≡ true
lists_declared lists [] text all among = absurd (cc)
lists_declared lists (n ∷ names) text all among = by_kind n.list refl among (lists_declared lists names text all.1)
  where
    by_text : (b : Bool) → bytes_eq n.text text ≡ b → n.list ≡ true → (b || is_among text (list_texts names)) ≡ true
        → (is_among text (list_texts names) ≡ true → is_list lists text ≡ true) → is_list lists text ≡ true
    by_text b same list among rest = grind (arith, bytes_eq-Decides)

    by_kind : (b : Bool) → n.list ≡ b → is_among text (map (λ m. m.text) (if b then (n ∷ filter (λ m. m.list) names) else filter (λ m. m.list) names)) ≡ true
        → (is_among text (list_texts names) ≡ true → is_list lists text ≡ true) → is_list lists text ≡ true
    by_kind b list among rest = grind (arith, by_text)

-- a name of the table is a list by the table exactly if it is a declared list
pub same_kind : (lists : List Text) (names : List Name) (k : ℕ) (name : Name) → AllByRecursion (IsDeclared lists) names → slice_get names k ≡ Some name
    → is_list (list_texts names) name.text ≡ is_list lists name.text
same_kind lists names k name all at = by_kind name.list refl (declared_at lists names k name all at)
  where
    parts : is_list (list_texts names) name.text ≡ (is_among name.text standard_lists || is_among name.text (list_texts names))
    parts = list_any-append (λ n. bytes_eq n name.text) standard_lists (list_texts names)

    by_kind : (b : Bool) → name.list ≡ b → is_list lists name.text ≡ b → is_list (list_texts names) name.text ≡ is_list lists name.text
    by_kind true list is = grind (arith, parts, or_right, among_lists)
    by_kind false list is = grind (arith, first_false, list_any-append, or_other, parts, lists_declared)
