-- Each entry that lines use is in its table, at its index.
use Rattle.std.proofs.Common.{◌≡◌, List, [], ◌∷◌, ◌++◌, Some, Bool, true, false, refl, arith}
use Rattle.std.specs.Prelude.{◌||◌, ◌&&◌, not, if◌then◌else◌, slice_get, filter}
use Rattle.std.specs.List.{list_any, position_or_len}
use Rattle.std.specs.Bool.{beq, Decides}
use Rattle.std.specs.Str.{bytes_eq}
use Rattle.std.proofs.lemmas.Bool.{and_from, or_right}
use Rattle.std.proofs.lemmas.Slice.Eq.{bytes_eq-Decides}
use Rattle.std.proofs.lemmas.Grind.{common_steps}
use Rattle.text_model.specs.Texts.{Text}
use Rattle.code_model.specs.Code.{Name, Literal}
use Rattle.compiler_model.specs.Tables.{is_same_name, is_same_literal, firsts}

-- ---- entries are distinguished

-- equality of entries that consist of a text and a flag
decides_both : {X : Type 0} (text : X → Text) (flag : X → Bool) → ((x y : X) → text x ≡ text y → flag x ≡ flag y → x ≡ y) → (x y : X)
    → Decides (bytes_eq (text x) (text y) && beq (flag x) (flag y)) (x ≡ y)
decides_both text flag whole x y = grind (arith, bytes_eq-Decides, and_from)

pub same_names : (n m : Name) → Decides (is_same_name n m) (n ≡ m)
same_names = decides_both (λ (n : Name). n.text) (λ n. n.list) (λ n m text list t. record { list = list t; text = text t })

pub same_literals : (l m : Literal) → Decides (is_same_literal l m) (l ≡ m)
same_literals = decides_both (λ (l : Literal). l.bytes) (λ l. l.compared) (λ l m bytes compared t. record { compared = compared t; bytes = bytes t })

module _ {X : Type 0} (same : X → X → Bool) (decides : (x y : X) → Decides (same x y) (x ≡ y)) where
  abbrev IsAmong : X → List X → Type 0
  IsAmong x xs = list_any (same x) xs ≡ true

  -- an entry stays when another one that differs from it is removed
  kept : (x y : X) (ys : List X) → same y x ≡ false → IsAmong x ys → IsAmong x (filter (λ z. not (same y z)) ys)
  kept x y [] d h = h
  kept x y (z ∷ ys) d h = by_test (same x z) refl (same y z) refl h (kept x y ys d)
    where
      by_test : (b : Bool) → same x z ≡ b → (c : Bool) → same y z ≡ c → (b || list_any (same x) ys) ≡ true
          → (IsAmong x ys → IsAmong x (filter (λ z. not (same y z)) ys))
          → list_any (same x) (if not c then (z ∷ filter (λ z. not (same y z)) ys) else filter (λ z. not (same y z)) ys) ≡ true
      by_test b e c f h rest = grind (arith, common_steps)

  pub among_firsts : (x : X) (xs : List X) → IsAmong x xs → IsAmong x (firsts same xs)
  among_firsts x [] h = h
  among_firsts x (y ∷ xs) h = by_test (same x y) refl h (among_firsts x xs)
    where
      by_test : (b : Bool) → same x y ≡ b → (b || list_any (same x) xs) ≡ true → (IsAmong x xs → IsAmong x (firsts same xs))
          → (same x y || list_any (same x) (filter (λ z. not (same y z)) (firsts same xs))) ≡ true
      by_test true e h rest = rw e refl
      by_test false e h rest = grind (arith, kept)

  -- an entry is at its index
  pub at_index : (x : X) (xs : List X) → IsAmong x xs → slice_get xs (position_or_len (same x) xs) ≡ Some x
  at_index x [] h = absurd (cc)
  at_index x (y ∷ xs) h = by_test (same x y) refl h (at_index x xs)
    where
      by_test : (b : Bool) → same x y ≡ b → (b || list_any (same x) xs) ≡ true → (IsAmong x xs → slice_get xs (position_or_len (same x) xs) ≡ Some x)
          → slice_get (y ∷ xs) (position_or_len (same x) (y ∷ xs)) ≡ Some x
      by_test b e h rest = grind (arith, common_steps)

  pub among_itself : (pre : List X) (x : X) (post : List X) → IsAmong x (pre ++ x ∷ post)
  among_itself [] x post = rw ((decides x x).1 refl) refl
  among_itself (y ∷ pre) x post = or_right (same x y) _ (among_itself pre x post)
