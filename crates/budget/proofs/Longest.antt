-- The longest comparison text of a code, and the length of an entry.
use Rattle.std.proofs.Common.{◌≡◌, ℕ, ◌+◌, ◌^◌, ◌<◌, ◌≤◌, true, false, List, [], ◌∷◌, length, take, get_or, Option, Some, None, refl, subst, arith}
use Rattle.std.specs.Prelude.{All, max, slice_get, if◌then◌else◌}
use Rattle.std.proofs.lemmas.List.{take_more}
use Rattle.std.proofs.lemmas.List.Elements.{All-get_or}
use Rattle.std.proofs.lemmas.List.Recursion.{max_push, max_least}
use Rattle.std.proofs.lemmas.Option.{slice_get_within, get_or_from_slice_get}
use Rattle.code_model.specs.Code.{Literal, Code}
use Rattle.machine_model.specs.Operands.{text_of_literal, literal_at}
use Rattle.machine_model.specs.Budget.{compared_length, longest_compared}
use Rattle.code_file.specs.Grammar.{IsLiteral, IsCode}

pub longest_none : longest_compared [] ≡ 0
unfolding longest_compared
longest_none = refl

longest_step : (l : Literal) (ls : List Literal) → longest_compared (l ∷ ls) ≡ max (compared_length l) (longest_compared ls)
unfolding longest_compared
longest_step l ls = refl

-- the first literals, with one more
pub longest_more : (ls : List Literal) (i : ℕ) (d : Literal) → i < length ls
    → longest_compared (take (i + 1) ls) ≡ max (longest_compared (take i ls)) (compared_length (get_or ls i d))
longest_more ls i d h =
    rw (take_more ls i d h) (max_push longest_compared compared_length longest_none longest_step (take i ls) (get_or ls i d))

-- the same if that one is the literal l: a comparison text, or a link text
module _ (ls : List Literal) (i : ℕ) (l : Literal) (lt : i < length ls) (is : l ≡ get_or ls i l) where
  pub longest_compared_more : (n m : ℕ) → n ≡ longest_compared (take i ls) → l.compared ≡ true → m ≡ max n (length l.bytes)
      → m ≡ longest_compared (take (i + 1) ls)
  longest_compared_more n m h is_compared e = rw (longest_more ls i l lt, ← is, is_compared, ← h) e

  pub longest_other_more : (n : ℕ) → n ≡ longest_compared (take i ls) → l.compared ≡ false → n ≡ longest_compared (take (i + 1) ls)
  longest_other_more n h is_other = rw (longest_more ls i l lt, ← is, is_other, ← h) (omega arith)

pub literal_short : (ls : List Literal) (i : ℕ) (d : Literal) → i < length ls → All IsLiteral ls → length (get_or ls i d).bytes < 2 ^ 16
literal_short ls i d h all = (All-get_or IsLiteral ls i d h all).short

compared_short : (l : Literal) → length l.bytes < 2 ^ 16 → compared_length l ≤ 65535
compared_short l h = elim l.compared as (λ b. (if b then length l.bytes else 0) ≤ 65535) [ true ↦ omega arith | false ↦ omega arith ]

pub longest_short : (c : Code) → IsCode c → longest_compared c.literals ≤ 65535
longest_short c is =
    max_least longest_compared compared_length longest_none longest_step c.literals (record { compared = false; bytes = [] }) 65535
    (λ i h. compared_short _ (literal_short c.literals i _ h is.literals))

entry_short : (ls : List Literal) (i : ℕ) (o : Option Literal) → slice_get ls i ≡ o → All IsLiteral ls → length (text_of_literal o) ≤ 65535
entry_short ls i None h all = omega arith
entry_short ls i (Some l) h all =
    let short = literal_short ls i l (slice_get_within ls i l h) all in
    let same : get_or ls i l ≡ l = get_or_from_slice_get ls i l l h in
    let here : length l.bytes < 2 ^ 16 = subst (λ x. length x.bytes < 2 ^ 16) same short in
    omega arith

pub text_short : (c : Code) (i : ℕ) → IsCode c → length (literal_at c i) ≤ 65535
text_short c i is = entry_short c.literals i (slice_get c.literals i) refl is.literals
