-- A row hides the entries of a request that have its names.

use Rattle.std.proofs.Common.{◌≡◌, Bool, true, false, List, [], ◌∷◌, ◌++◌, Some, is_some, bytes_eq, refl, sym, ap, ◌∙◌, append_assoc, arith}
use Rattle.std.proofs.lemmas.Slice.Eq.{bytes_eq-Decides}
use Rattle.text_model.specs.Texts.{Text}
use Rattle.environment_model.specs.Environment.{Environment, Entry, Meaning, Single, Several, look_up, is_there, text_in, text_of, member_count}
use Rattle.environment_model.specs.Environment.{meaning_members, with_text}
use Rattle.environment_model.proofs.Environments.{look_up-empty, look_up-same, look_up-other, look_up-append}
use Rattle.environment_model.proofs.Environments.{with_text-new, member_count-cons}
use Rattle.kbart_rows.specs.Cells.{NamedCell}
use Rattle.kbart_rows.specs.Filling as by_cells
use Rattle.row_laws.specs.Shadowing.{row_of, visible}

-- ---- a row has only texts

abbrev IsText : Meaning → Type 0
IsText (Single t) = Unit {0}
IsText (Several ts) = ⊥

abbrev pub HasTextsAlone : Environment → Type 0
HasTextsAlone [] = Unit {0}
HasTextsAlone (e ∷ env) = IsText e.meaning × HasTextsAlone env

texts-push : (env : Environment) (name t : Text) → HasTextsAlone env → HasTextsAlone (env ++ record { name = name; meaning = Single t } ∷ [])
texts-push [] name t alone = (tt, tt)
texts-push (e ∷ env) name t alone = (alone.0, texts-push env name t alone.1)

texts-with_text : (env : Environment) (name t : Text) → HasTextsAlone env → HasTextsAlone (with_text env name t)
texts-with_text env name t alone = grind (arith, texts-push)

texts-filled : (env : Environment) (cells : List NamedCell) → HasTextsAlone env → HasTextsAlone (by_cells.with_named_cells env cells)
texts-filled env [] alone = alone
texts-filled env (cell ∷ cells) alone = texts-filled (by_cells.with_named_cell env cell) cells (texts-with_text env cell.name cell.text alone)

pub row_has_texts : (cells : List NamedCell) → HasTextsAlone (row_of cells)
row_has_texts cells = texts-filled [] cells tt

-- a name that is defined has a text
pub there_is_text : (env : Environment) (name : Text) → HasTextsAlone env → is_there env name ≡ true → is_some (text_of env name) ≡ true
there_is_text [] name alone there = let none : is_there [] name ≡ false = ap is_some (look_up-empty name) in absurd (cc)
there_is_text (e ∷ env) name alone there = by_name (bytes_eq e.name name) refl (there_is_text env name alone.1)
  where
    holds : (m : Meaning) → IsText m → is_some (text_in (Some m)) ≡ true
    holds (Single t) is = refl
    holds (Several ts) is = absurd is

    by_name : (b : Bool) → bytes_eq e.name name ≡ b → (is_there env name ≡ true → is_some (text_of env name) ≡ true) → is_some (text_of (e ∷ env) name) ≡ true
    by_name true same after = ap (λ o. is_some (text_in o)) (look_up-same e env name same) ∙ holds e.meaning alone.0
    by_name false other after =
        ap (λ o. is_some (text_in o)) (look_up-other e env name other) ∙ after (ap is_some (sym (look_up-other e env name other)) ∙ there)

pub members_of_texts : (env : Environment) → HasTextsAlone env → member_count env ≡ 0
members_of_texts [] alone = refl
members_of_texts (e ∷ env) alone =
    let none : meaning_members e.meaning ≡ 0 = holds e.meaning alone.0 in
    let after = members_of_texts env alone.1 in
    let all = member_count-cons e env in
    omega arith
  where
    holds : (m : Meaning) → IsText m → meaning_members m ≡ 0
    holds (Single t) is = refl
    holds (Several ts) is = absurd is

-- ---- names that come before

pub look_up-front : (front back : Environment) (name : Text) → is_there front name ≡ true → look_up (front ++ back) name ≡ look_up front name
look_up-front [] back name there = let none : is_there [] name ≡ false = ap is_some (look_up-empty name) in absurd (cc)
look_up-front (e ∷ front) back name there = by_name (bytes_eq e.name name) refl (look_up-front front back name)
  where
    by_name : (b : Bool) → bytes_eq e.name name ≡ b → (is_there front name ≡ true → look_up (front ++ back) name ≡ look_up front name)
        → look_up (e ∷ (front ++ back)) name ≡ look_up (e ∷ front) name
    by_name true same after = look_up-same e (front ++ back) name same ∙ sym (look_up-same e front name same)
    by_name false other after =
        look_up-other e (front ++ back) name other ∙ after (ap is_some (sym (look_up-other e front name other)) ∙ there)
        ∙ sym (look_up-other e front name other)

pub with_text-append : (front back : Environment) (name t : Text) → is_there front name ≡ false → with_text (front ++ back) name t
    ≡ front ++ with_text back name t
with_text-append front back name t absent = grind (arith, look_up-append, with_text-new, append_assoc)

-- ---- what is not hidden

pub same_name : (row : Environment) (a b : Text) → bytes_eq a b ≡ true → is_there row a ≡ is_there row b
same_name row a b same = ap (is_there row) ((bytes_eq-Decides a b).0 same)

pub visible-hidden : (row : Environment) (e : Entry) (env : Environment) → is_there row e.name ≡ true → visible row (e ∷ env) ≡ visible row env
visible-hidden row e env there = rw there refl

pub visible-seen : (row : Environment) (e : Entry) (env : Environment) → is_there row e.name ≡ false → visible row (e ∷ env) ≡ e ∷ visible row env
visible-seen row e env absent = rw absent refl

pub look_up-visible : (row env : Environment) (name : Text) → is_there row name ≡ false → look_up (visible row env) name ≡ look_up env name
look_up-visible row [] name absent = refl
look_up-visible row (e ∷ env) name absent = by_row (is_there row e.name) refl (look_up-visible row env name absent)
  where
    by_row : (b : Bool) → is_there row e.name ≡ b → look_up (visible row env) name ≡ look_up env name
        → look_up (visible row (e ∷ env)) name ≡ look_up (e ∷ env) name
    by_row true there after =
        ap (λ es. look_up es name) (visible-hidden row e env there) ∙ after ∙ sym (look_up-other e env name (differs (bytes_eq e.name name) refl))
      where
        differs : (b : Bool) → bytes_eq e.name name ≡ b → b ≡ false
        differs true same = let is = same_name row e.name name same in absurd (cc)
        differs false other = refl
    by_row false seen after = ap (λ es. look_up es name) (visible-seen row e env seen) ∙ by_name (bytes_eq e.name name) refl
      where
        by_name : (b : Bool) → bytes_eq e.name name ≡ b → look_up (e ∷ visible row env) name ≡ look_up (e ∷ env) name
        by_name true same = look_up-same e (visible row env) name same ∙ sym (look_up-same e env name same)
        by_name false other = look_up-other e (visible row env) name other ∙ after ∙ sym (look_up-other e env name other)
