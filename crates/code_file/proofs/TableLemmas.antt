-- Tables of entries that follow one another.
use Rattle.std.proofs.Common.{◌≡◌, ◌<◌, ◌≤◌, ◌+◌, ◌-◌, ℕ, suc, List, [], ◌∷◌, ◌++◌, length, take, drop, refl, sym, ◌∙◌, ap, subst, arith, length-append}
use Rattle.std.proofs.lemmas.Grind.{common_steps}
use Rattle.std.specs.Prelude.{All}
use Rattle.std.specs.List.{flat_map}
use Rattle.std.proofs.lemmas.List.Elements.{All-nil, All-push, All-head, All-tail}
use Rattle.text_model.specs.Texts.{Text}
use Rattle.code_file.specs.Fault.{after, IsTableOf, IsTable}

pub table_none : {X : Type 0} (IsGood : X → Type 0) (field : X → Text) → IsTable IsGood field 0 []
table_none IsGood field = ([], record { good = All-nil IsGood; counted = refl; spells = refl })

pub table_more : {X : Type 0} {IsGood : X → Type 0} {field : X → Text} {count : ℕ} {bytes : Text} {entries : List X}
    → IsTableOf IsGood field count bytes entries → (x : X) → IsGood x
    → IsTableOf IsGood field (count + 1) (bytes ++ field x) (entries ++ x ∷ [])
table_more {IsGood = IsGood} {field = field} {bytes = bytes} {entries = entries} t x good = record {
  good = All-push IsGood entries x t.good good;
  counted = length-append entries (x ∷ []) ∙ ap (λ (n : ℕ). n + 1) t.counted;
  spells = grind (arith, common_steps);
}

-- the first bytes are a table, and are one with one more entry
pub so_far_more : {X : Type 0} (IsGood : X → Type 0) (field : X → Text) (n at next : ℕ) (bytes rest after : Text)
    → IsTable IsGood field n (take at bytes) → at ≤ length bytes → rest ≡ drop at bytes
    → (x : X) → IsGood x → rest ≡ field x ++ after → next ≡ length bytes - length after
    → IsTable IsGood field (n + 1) (take next bytes) × (next ≤ length bytes)
so_far_more IsGood field n at next bytes rest after t within is x good spells eq =
    let whole : bytes ≡ (take at bytes ++ field x) ++ after = grind (arith, common_steps) in
    let len : length bytes ≡ length (take at bytes ++ field x) + length after = ap length whole ∙ length-append (take at bytes ++ field x) after in
    let front : take next bytes ≡ take at bytes ++ field x = grind (arith, common_steps) in
    ((t.0 ++ x ∷ [], subst (λ (b : Text). IsTableOf IsGood field (n + 1) b (t.0 ++ x ∷ [])) (sym front) (table_more t.1 x good)), omega (arith, eq))

-- one more entry is read, and fewer bytes are left
pub spells_more : {X : Type 0} (field : X → Text) (bytes rest after : Text) (built : List X) (x : X)
    → bytes ≡ flat_map field built ++ rest → rest ≡ field x ++ after → bytes ≡ flat_map field (built ++ x ∷ []) ++ after
spells_more field bytes rest after built x h s = grind (arith, common_steps)

-- A table of which the entries `built` have been read, and the bytes `rest` are left.
pub record IsBuilding {X : Type 0} (IsGood : X → Type 0) (field : X → Text) (count : ℕ) (bytes rest : Text) (built : List X) : Type 0 where
  pub left : List X
  pub good : All IsGood built
  pub left_good : All IsGood left
  pub counted : length built + length left ≡ count
  pub left_spells : rest ≡ flat_map field left
  pub spells : bytes ≡ flat_map field built ++ rest

-- an entry comes next, as long as fewer have been read than the count says
pub building_next : {X : Type 0} {IsGood : X → Type 0} {field : X → Text} {count : ℕ} {bytes rest : Text} {built : List X}
    → IsBuilding IsGood field count bytes rest built → length built < count
    → (x : X) × (after : Text) × IsGood x × (rest ≡ field x ++ after) × IsBuilding IsGood field count bytes after (built ++ x ∷ [])
building_next {X = X} {IsGood = IsGood} {field = field} {count = count} {bytes = bytes} {rest = rest} {built = built} b fewer =
    go b.left b.left_good b.counted b.left_spells
  where
    go : (left : List X) → All IsGood left → length built + length left ≡ count → rest ≡ flat_map field left
        → (x : X) × (after : Text) × IsGood x × (rest ≡ field x ++ after) × IsBuilding IsGood field count bytes after (built ++ x ∷ [])
    go [] g n s = absurd (omega arith)
    go (x ∷ left) g n s = (
      x,
      flat_map field left,
      All-head IsGood x left g,
      s,
      record {
        left = left;
        good = All-push IsGood built x b.good (All-head IsGood x left g);
        left_good = All-tail IsGood x left g;
        counted = omega (arith, length-append built (x ∷ []));
        left_spells = refl;
        spells = spells_more field bytes rest (flat_map field left) built x b.spells s;
      },
    )

pub table_cons : {X : Type 0} (IsGood : X → Type 0) (field : X → Text) (count : ℕ) (bytes whole : Text) (entries : List X)
    → IsTableOf IsGood field count bytes entries → (x : X) → IsGood x → whole ≡ field x ++ bytes
    → IsTableOf IsGood field (suc count) whole (x ∷ entries)
table_cons IsGood field count bytes whole entries t x good h = grind (arith, common_steps)
