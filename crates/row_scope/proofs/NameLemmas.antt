-- Names of a code, and those of them that are lists.
use Rattle.std.proofs.Common.{◌≡◌, ℕ, ◌+◌, ◌<◌, Bool, true, false, ◌||◌, ◌&&◌, List, [], ◌∷◌, ◌++◌, Some, filter, map, take, length, get_or, slice_get}
use Rattle.std.proofs.Common.{if◌then◌else◌, refl, sym, ap, ◌∙◌, arith, length-append}
use Rattle.std.specs.List.{list_any}
use Rattle.std.specs.Str.{bytes_eq}
use Rattle.std.proofs.Math.Logic.{⊎_elim}
use Rattle.std.proofs.lemmas.Bool.{cases_lt}
use Rattle.std.proofs.lemmas.List.{append-nil, take_all, take_more, take-append-le, map-append, get_or_append_left, get_or_push}
use Rattle.std.proofs.lemmas.List.Elements.{filter-append}
use Rattle.std.proofs.lemmas.List.Folds.{list_any-append}
use Rattle.std.proofs.lemmas.Option.{slice_get_within, get_or_from_slice_get}
use Rattle.std.proofs.lemmas.Slice.Eq.{bytes_eq-Decides}
use Rattle.std.proofs.Math.Bool.{or-false}
use Rattle.text_model.specs.Texts.{Text}
use Rattle.environment_model.specs.Environment.{is_among}
use Rattle.environment_model.specs.Lists.{is_list, standard_lists}
use Rattle.code_model.specs.Code.{Code, Name}
use Rattle.machine_model.specs.Operands.{name_at, text_of_name}
use Rattle.row_scope.specs.NameColumns.{names_at}

-- the lists among the first names
abbrev pub lists_before : Code → ℕ → List Text
lists_before code n = map (λ name. name.text) (filter (λ name. name.list) (take n code.names))

-- the text of a name of the table
pub named : (code : Code) (n : ℕ) (name : Name) → slice_get code.names n ≡ Some name → name_at code n ≡ name.text
named code n name there = ap text_of_name there

-- ---- which names are lists

-- a list is one of the standard's, or one of these
pub listed_among : (names : List Text) (name : Text) → is_list names name ≡ (is_list [] name || is_among name names)
listed_among names name = list_any-append (λ n. bytes_eq n name) standard_lists names

-- one more list
pub listed_push : (names : List Text) (last name : Text) → is_list (names ++ last ∷ []) name ≡ (is_list names name || bytes_eq last name)
listed_push names last name =
    list_any-append (λ n. bytes_eq n name) (standard_lists ++ names) (last ∷ []) ∙ ap (λ b. is_list names name || b) (or-false (bytes_eq last name))

-- names by their numbers
pub among_numbers : (code : Code) (numbers : List ℕ) (name : Text)
    → is_among name (names_at code numbers) ≡ list_any (λ number. bytes_eq (name_at code number) name) numbers
among_numbers code [] name = refl
among_numbers code (number ∷ numbers) name = ap (λ b. bytes_eq (name_at code number) name || b) (among_numbers code numbers name)

-- names that are marked as lists
pub among_lists : (names : List Name) (name : Text)
    → is_among name (map (λ n. n.text) (filter (λ n. n.list) names)) ≡ list_any (λ n. n.list && bytes_eq n.text name) names
among_lists [] name = refl
among_lists (n ∷ names) name = by_mark n.list refl (among_lists names name) where
  by_mark : (b : Bool) → n.list ≡ b → is_among name (map (λ x. x.text) (filter (λ x. x.list) names)) ≡ list_any (λ x. x.list && bytes_eq x.text name) names
      → is_among name (map (λ x. x.text) (filter (λ x. x.list) (n ∷ names))) ≡ list_any (λ x. x.list && bytes_eq x.text name) (n ∷ names)
  by_mark true is others = rw is (ap (λ b. bytes_eq n.text name || b) others)
  by_mark false is others = rw is others

-- ---- one more name of the code

abbrev listed : Name → List Text
listed name = map (λ n. n.text) (filter (λ n. n.list) (name ∷ []))

more_before : (code : Code) (n : ℕ) (name : Name) → slice_get code.names n ≡ Some name → lists_before code (n + 1) ≡ lists_before code n ++ listed name
more_before code n name there =
    ap (λ names. map (λ x. x.text) (filter (λ x. x.list) names))
    (take_more code.names n name (slice_get_within code.names n name there)
    ∙ ap (λ x. take n code.names ++ x ∷ []) (get_or_from_slice_get code.names n name name there))
    ∙ ap (map (λ x. x.text)) (filter-append (λ x. x.list) (take n code.names) (name ∷ []))
    ∙ map-append (λ x. x.text) (filter (λ x. x.list) (take n code.names)) (filter (λ x. x.list) (name ∷ []))

-- which names are lists, with one more name
listed_more : (lists : List Text) (name : Name) (b : Bool) → name.list ≡ b → (q : Text)
    → is_list (lists ++ listed name) q ≡ (is_list lists q || (b && bytes_eq name.text q))
listed_more lists name true is q = ap (λ b. is_list (lists ++ map (λ n. n.text) (if b then (name ∷ []) else [])) q) is ∙ listed_push lists name.text q
listed_more lists name false is q =
    ap (λ b. is_list (lists ++ map (λ n. n.text) (if b then (name ∷ []) else [])) q) is
    ∙ ap (λ ls. is_list ls q) (append-nil lists)
    ∙ sym (or-false (is_list lists q))

pub before_more : (code : Code) (n : ℕ) (name : Name) (b : Bool) → slice_get code.names n ≡ Some name → name.list ≡ b → (q : Text)
    → is_list (lists_before code (n + 1)) q ≡ (is_list (lists_before code n) q || (b && bytes_eq name.text q))
before_more code n name b there is q = ap (λ ls. is_list ls q) (more_before code n name there) ∙ listed_more (lists_before code n) name b is q

-- a name that is a list already adds nothing
pub known_adds_nothing : (lists : List Text) (name q : Text) → is_list lists name ≡ true → (is_list lists q || bytes_eq name q) ≡ is_list lists q
known_adds_nothing lists name q known = by_test (bytes_eq name q) refl where
  by_test : (b : Bool) → bytes_eq name q ≡ b → (is_list lists q || b) ≡ is_list lists q
  by_test true same =
      let among : is_list lists q ≡ true = sym (ap (is_list lists) ((bytes_eq-Decides name q).0 same)) ∙ known in
      ap (λ b. b || true) among ∙ sym among
  by_test false other = or-false (is_list lists q)

-- ---- numbers of lists, each of which is not among those before it

abbrev pub AreNew : Code → List ℕ → Type 0
AreNew code numbers = (k d : ℕ) → k < length numbers → is_list (names_at code (take k numbers)) (name_at code (get_or numbers k d)) ≡ false

pub new_more : (code : Code) (numbers : List ℕ) (n : ℕ) → AreNew code numbers
    → is_list (names_at code numbers) (name_at code n) ≡ false → AreNew code (numbers ++ n ∷ [])
new_more code numbers n new other k d within =
    ⊎_elim
    (λ before.
    ap (λ ns. is_list (names_at code ns) (name_at code (get_or (numbers ++ n ∷ []) k d))) (take-append-le k numbers (n ∷ []) (omega (arith, before)))
    ∙ ap (λ m. is_list (names_at code (take k numbers)) (name_at code m)) (get_or_append_left numbers (n ∷ []) d k before)
    ∙ new k d before)
    (λ after.
    let long = length-append numbers (n ∷ []) in
    let last : k ≡ length numbers = omega (arith, within, after, long) in
    ap (λ ns. is_list (names_at code ns) (name_at code (get_or (numbers ++ n ∷ []) k d)))
    (take-append-le k numbers (n ∷ []) (omega (arith, last)) ∙ take_all k numbers (omega (arith, last)))
    ∙ ap (λ m. is_list (names_at code numbers) (name_at code m)) (get_or_push numbers n d k (sym last))
    ∙ other)
    (cases_lt k (length numbers))

-- the lists among the names so far are those of the numbers
abbrev pub AreSame : Code → List ℕ → ℕ → Type 0
AreSame code numbers n = (q : Text) → is_list (names_at code numbers) q ≡ is_list (lists_before code n) q

module _ (code : Code) (numbers : List ℕ) (n : ℕ) (name : Name) (there : slice_get code.names n ≡ Some name) (same : AreSame code numbers n) where
  pub same_pushed : name.list ≡ true → AreSame code (numbers ++ n ∷ []) (n + 1)
  same_pushed is q =
      ap (λ ns. is_list ns q) (map-append (name_at code) numbers (n ∷ []))
      ∙ listed_push (names_at code numbers) (name_at code n) q
      ∙ ap (λ t. is_list (names_at code numbers) q || bytes_eq t q) (named code n name there)
      ∙ ap (λ b. b || bytes_eq name.text q) (same q)
      ∙ sym (before_more code n name true there is q)

  pub same_known : name.list ≡ true → is_list (names_at code numbers) name.text ≡ true → AreSame code numbers (n + 1)
  same_known is known q =
      same q
      ∙ sym (known_adds_nothing (lists_before code n) name.text q (sym (same name.text) ∙ known))
      ∙ sym (before_more code n name true there is q)

  pub same_unlisted : name.list ≡ false → AreSame code numbers (n + 1)
  same_unlisted is q = same q ∙ sym (or-false (is_list (lists_before code n) q)) ∙ sym (before_more code n name false there is q)
