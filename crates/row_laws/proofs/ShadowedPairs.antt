-- A pair whose key the row has.

use Rattle.std.proofs.Common.{◌≡◌, ◌+◌, Bool, true, false, List, [], ◌∷◌, ◌++◌, is_some, bytes_eq, refl, sym, ap, ◌∙◌, append-nil, arith}
use Rattle.std.specs.Prelude.{if◌then◌else◌}
use Rattle.std.proofs.lemmas.Grind.{common_steps}
use Rattle.std.proofs.lemmas.List.Elements.{filter-append}
use Rattle.std.proofs.lemmas.List.Filters.{sum_by-filter_both}
use Rattle.std.proofs.lemmas.List.Sums.{sum_by-append}
use Rattle.text_model.specs.Texts.{Text}
use Rattle.environment_model.specs.Environment.{Environment, Several, look_up, is_there, text_in, text_of, byte_count, member_count}
use Rattle.environment_model.specs.Environment.{with_text, with_member}
use Rattle.environment_model.specs.Lists.{is_list}
use Rattle.environment_model.proofs.Environments.{look_up-append, with_member-empty, with_member-same}
use Rattle.environment_model.proofs.Environments.{with_member-other, with_member-append, with_member-text, with_text-known}
use Rattle.kev_read.specs.Pairs.{KeyValue}
use Rattle.kev_read.specs.Filling as by_pairs
use Rattle.kev_read.specs.Filling.{added, fill_one}
use Rattle.kbart_rows.specs.Cells.{NamedCell}
use Rattle.row_laws.specs.Shadowing.{requested, row_of, visible, hidden}
use Rattle.row_laws.proofs.Shadowing.{HasTextsAlone, look_up-front, look_up-visible, members_of_texts, row_has_texts, same_name, visible-hidden, visible-seen}
use Rattle.row_laws.proofs.Shadowing.{there_is_text, with_text-append}

with_text-hidden : (row env : Environment) (name t : Text) → is_there row name ≡ true → visible row (with_text env name t) ≡ visible row env
with_text-hidden row env name t there = grind (arith, common_steps)

with_member-hidden : (row env : Environment) (name t : Text) → is_there row name ≡ true → visible row (with_member env name t) ≡ visible row env
with_member-hidden row [] name t there =
    ap (visible row) (with_member-empty name t) ∙ visible-hidden row (record { name = name; meaning = Several (t ∷ []) }) [] there
with_member-hidden row (e ∷ env) name t there = by_name (bytes_eq e.name name) refl (with_member-hidden row env name t there)
  where
    by_name : (b : Bool) → bytes_eq e.name name ≡ b → visible row (with_member env name t) ≡ visible row env
        → visible row (with_member (e ∷ env) name t) ≡ visible row (e ∷ env)
    by_name true same after = grind (arith, same_name, with_member-same)
    by_name false other after = grind (arith, with_member-other, visible-hidden)

-- ---- a pair whose key the row does not have

with_text-visible : (row env : Environment) (name t : Text) → is_there row name ≡ false
    → visible row (with_text env name t) ≡ with_text (visible row env) name t
with_text-visible row env name t absent = by_test (is_there env name) refl
  where
    same_test : is_there (visible row env) name ≡ is_there env name
    same_test = ap is_some (look_up-visible row env name absent)

    by_test : (b : Bool) → is_there env name ≡ b → visible row (with_text env name t) ≡ with_text (visible row env) name t
    by_test true known = ap (visible row) (with_text-known env name t known) ∙ sym (with_text-known (visible row env) name t (same_test ∙ known))
    by_test false new = grind (arith, filter-append, visible-seen, same_test)

with_member-visible : (row env : Environment) (name t : Text) → is_there row name ≡ false
    → visible row (with_member env name t) ≡ with_member (visible row env) name t
with_member-visible row [] name t absent =
    ap (visible row) (with_member-empty name t) ∙ visible-seen row (record { name = name; meaning = Several (t ∷ []) }) [] absent
    ∙ sym (with_member-empty name t)
with_member-visible row (e ∷ env) name t absent = by_name (bytes_eq e.name name) refl (with_member-visible row env name t absent)
  where
    by_name : (b : Bool) → bytes_eq e.name name ≡ b → visible row (with_member env name t) ≡ with_member (visible row env) name t
        → visible row (with_member (e ∷ env) name t) ≡ with_member (visible row (e ∷ env)) name t
    by_name true same after = grind (arith, same_name, with_member-same)
    by_name false other after = grind (arith, with_member-other, visible-seen)

-- ---- all pairs

one_pair : (row env : Environment) (list : Bool) (pair : KeyValue) → HasTextsAlone row
    → added list (row ++ visible row env) pair ≡ row ++ visible row (added list env pair)
one_pair row env true pair alone = by_row (is_there row pair.key) refl
  where
    by_row : (b : Bool) → is_there row pair.key ≡ b
        → with_member (row ++ visible row env) pair.key pair.value ≡ row ++ visible row (with_member env pair.key pair.value)
    by_row true there =
        let text : is_some (text_of (row ++ visible row env) pair.key) ≡ true =
        ap (λ o. is_some (text_in o)) (look_up-front row (visible row env) pair.key there) ∙ there_is_text row pair.key alone there in
        with_member-text (row ++ visible row env) pair.key pair.value text ∙ ap (λ es. row ++ es) (sym (with_member-hidden row env pair.key pair.value there))
    by_row false absent =
        with_member-append row (visible row env) pair.key pair.value absent
        ∙ ap (λ es. row ++ es) (sym (with_member-visible row env pair.key pair.value absent))
one_pair row env false pair alone = by_row (is_there row pair.key) refl
  where
    by_row : (b : Bool) → is_there row pair.key ≡ b
        → with_text (row ++ visible row env) pair.key pair.value ≡ row ++ visible row (with_text env pair.key pair.value)
    by_row true there =
        with_text-known (row ++ visible row env) pair.key pair.value (ap is_some (look_up-front row (visible row env) pair.key there) ∙ there)
        ∙ ap (λ es. row ++ es) (sym (with_text-hidden row env pair.key pair.value there))
    by_row false absent =
        with_text-append row (visible row env) pair.key pair.value absent ∙ ap (λ es. row ++ es) (sym (with_text-visible row env pair.key pair.value absent))

all_pairs : (lists : List Text) (row env : Environment) (pairs : List KeyValue) → HasTextsAlone row
    → by_pairs.filled lists (row ++ visible row env) pairs ≡ row ++ visible row (by_pairs.filled lists env pairs)
all_pairs lists row env [] alone = refl
all_pairs lists row env (pair ∷ pairs) alone =
    ap (λ es. by_pairs.filled lists es pairs) (one_pair row env (is_list lists pair.key) pair alone) ∙ all_pairs lists row (fill_one lists env pair) pairs alone

pub entries_are : (lists : List Text) (cells : List NamedCell) (pairs : List KeyValue)
    → by_pairs.filled lists (row_of cells) pairs ≡ row_of cells ++ visible (row_of cells) (requested lists pairs)
entries_are lists cells pairs =
    ap (λ es. by_pairs.filled lists es pairs) (sym (append-nil (row_of cells))) ∙ all_pairs lists (row_of cells) [] pairs (row_has_texts cells)

pub look_up_is : (lists : List Text) (cells : List NamedCell) (pairs : List KeyValue) (name : Text)
    → look_up (by_pairs.filled lists (row_of cells) pairs) name
    ≡ (if is_there (row_of cells) name then look_up (row_of cells) name else look_up (requested lists pairs) name)
look_up_is lists cells pairs name = grind (arith, entries_are, look_up-front, look_up-append, look_up-visible)

-- ---- sums

pub bytes_are : (lists : List Text) (cells : List NamedCell) (pairs : List KeyValue)
    → byte_count (by_pairs.filled lists (row_of cells) pairs) + byte_count (hidden (row_of cells) (requested lists pairs))
    ≡ byte_count (row_of cells) + byte_count (requested lists pairs)
bytes_are lists cells pairs = grind (arith, entries_are, sum_by-append, sum_by-filter_both)

pub members_are : (lists : List Text) (cells : List NamedCell) (pairs : List KeyValue)
    → member_count (by_pairs.filled lists (row_of cells) pairs) + member_count (hidden (row_of cells) (requested lists pairs))
    ≡ member_count (requested lists pairs)
members_are lists cells pairs = grind (arith, entries_are, sum_by-append, sum_by-filter_both, members_of_texts, row_has_texts)

pub no_members : (cells : List NamedCell) → member_count (row_of cells) ≡ 0
no_members cells = members_of_texts (row_of cells) (row_has_texts cells)
