-- A map of paths after a change at one path.
use Rattle.std.proofs.Common.{◌≡◌, ◌≢◌, Bool, true, false, Option, String, Global, string_bytes, ap, refl, subst, sym, ◌∙◌}
use Rattle.std.specs.BTreeMap.{BTreeMap, UpdatesBy, get_by_text}
use Rattle.std.specs.Cmp.Lexicographic.{slice_cmp}
use Rattle.std.specs.Ordering.{nat_cmp}
use Rattle.std.specs.Str.{bytes_eq}
use Rattle.std.specs.String.{string_cmp}
use Rattle.std.proofs.lemmas.Bool.{false_from_ne_true, false≢true}
use Rattle.std.proofs.lemmas.Map.{update_other, update_same}
use Rattle.std.proofs.lemmas.Map.Text.{btree_map_updates_text}
use Rattle.std.proofs.lemmas.Slice.Eq.{bytes_eq-Decides}
use Rattle.text_model.specs.Texts.{Text}
use Rattle.files_in_memory.specs.declared.content.Entry.{Entry}

abbrev pub Entries : Type 0
Entries = BTreeMap (String Global) Entry

-- the new map has this at the path, and elsewhere what the old one has
abbrev pub Puts : Entries → Text → Option Entry → Entries → Type 0
Puts old path entry new = UpdatesBy string_cmp (λ key. slice_cmp nat_cmp path (string_bytes key)) old new entry

module _ (old : Entries) (path : Text) (entry : Option Entry) (new : Entries) (puts : Puts old path entry new) where
  pub found_here : get_by_text new path ≡ entry
  found_here =
      btree_map_updates_text path old new entry puts path ∙ update_same bytes_eq (get_by_text old) path entry path
      ((bytes_eq-Decides path path).1 refl)

  pub found_elsewhere : (other : Text) → other ≢ path → get_by_text new other ≡ get_by_text old other
  found_elsewhere other apart =
      btree_map_updates_text path old new entry puts other
      ∙ update_other bytes_eq (get_by_text old) path entry other
      (false_from_ne_true (bytes_eq path other) (λ same. apart (sym ((bytes_eq-Decides path other).0 same))))

  -- what is said of each entry stays, if the new one has it from the one before
  pub kept_by : {Y : Type 0} (f : Option Entry → Y) → f entry ≡ f (get_by_text old path) → (other : Text)
      → f (get_by_text new other) ≡ f (get_by_text old other)
  kept_by {Y} f same other = by (bytes_eq path other) refl
    where
      by : (is : Bool) → bytes_eq path other ≡ is → f (get_by_text new other) ≡ f (get_by_text old other)
      by true is =
          subst (λ p. f (get_by_text new p) ≡ f (get_by_text old p)) ((bytes_eq-Decides path other).0 is) (ap f found_here ∙ same)
      by false is = ap f (found_elsewhere other (λ same. false≢true (sym is ∙ (bytes_eq-Decides path other).1 (sym same))))
