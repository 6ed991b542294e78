-- Literals as a run of items, and how a literal grows by one item.
use Rattle.std.proofs.Common.{◌≡◌, ℕ, ◌+◌, true, false, List, [], ◌∷◌, ◌++◌, drop, take, refl, arith, ◌==◌, ◌&&◌}
use Rattle.std.specs.Prelude.{if◌then◌else◌}
use Rattle.std.proofs.lemmas.Grind.{common_steps}
use Rattle.std.proofs.Math.Seq.{take-add}
use Rattle.std.proofs.lemmas.Bool.{cond_both, cond-true, cond-false, eqb-true, and_parts}
use Rattle.text_model.specs.Texts.{begins_with_triplet, is_triplet, is_hexadecimal}
use Rattle.uri_grammar.specs.Characters.{open_brace}
use Rattle.uri_grammar.specs.Literals.{is_literal_character, begins_with_literal, AreLiterals, no_literals, literal_character, literal_triplet}
use Rattle.uri_grammar.specs.Private.Lengths.{literal_item_len}
use Rattle.uri_grammar.proofs.RunLemmas.{Run, no_item, next_item}

pub percent_first : (c high low : ℕ) → is_triplet c high low ≡ true → c ≡ 37
percent_first c high low t = eqb-true c 37 (and_parts (c == 37) (is_hexadecimal high && is_hexadecimal low) t).0

literal_item_len-triplet : (c high low : ℕ) (x : List ℕ) → is_triplet c high low ≡ true → literal_item_len (c ∷ high ∷ low ∷ x) ≡ 3
unfolding is_literal_character
literal_item_len-triplet c high low x t = grind (arith, percent_first, cond-true)

pub AreLiterals-run : (cs : List ℕ) → AreLiterals cs → Run literal_item_len cs
AreLiterals-run cs no_literals = no_item
AreLiterals-run cs (literal_character c rest l more) =
    next_item (c ∷ []) rest (omega arith) (λ x. cond-true (is_literal_character c) _ _ l) (AreLiterals-run rest more)
AreLiterals-run cs (literal_triplet c d e rest t more) =
    next_item (c ∷ d ∷ e ∷ []) rest (omega arith) (λ x. literal_item_len-triplet c d e x t) (AreLiterals-run rest more)

-- there is no literal at the beginning exactly if its length is 0
pub no_literal-length : (cs : List ℕ) → begins_with_literal cs ≡ false → literal_item_len cs ≡ 0
no_literal-length [] h = refl
no_literal-length (c ∷ cs) h = grind (arith, cond-false)

pub no_length-literal : (cs : List ℕ) → literal_item_len cs ≡ 0 → begins_with_literal cs ≡ false
no_length-literal [] h = refl
no_length-literal (c ∷ cs) h = grind (arith, common_steps)

-- no literal begins with a brace
pub literal_item_len-brace : (cs : List ℕ) → literal_item_len (open_brace ∷ cs) ≡ 0
unfolding is_literal_character
literal_item_len-brace [] = refl
literal_item_len-brace (c ∷ []) = refl
literal_item_len-brace (c ∷ d ∷ cs) = refl

pub AreLiterals-append : (xs ys : List ℕ) → AreLiterals xs → AreLiterals ys → AreLiterals (xs ++ ys)
AreLiterals-append xs ys no_literals h = h
AreLiterals-append xs ys (literal_character c cs l rest) h = literal_character c (cs ++ ys) l (AreLiterals-append cs ys rest h)
AreLiterals-append xs ys (literal_triplet c d e cs t rest) h = literal_triplet c d e (cs ++ ys) t (AreLiterals-append cs ys rest h)

pub AreLiterals-item : (cs : List ℕ) → AreLiterals (take (literal_item_len cs) cs)
AreLiterals-item [] = no_literals
AreLiterals-item (c ∷ cs) =
    cond_both (is_literal_character c) 1 (if begins_with_triplet (c ∷ cs) then 3 else 0) (λ n. AreLiterals (take n (c ∷ cs)))
    (λ l. literal_character c [] l no_literals)
    (λ _. cond_both (begins_with_triplet (c ∷ cs)) 3 0 (λ n. AreLiterals (take n (c ∷ cs))) (triplet cs) (λ _. no_literals))
  where
    triplet : (cs : List ℕ) → begins_with_triplet (c ∷ cs) ≡ true → AreLiterals (take 3 (c ∷ cs))
    triplet [] h = cc
    triplet (d ∷ []) h = cc
    triplet (d ∷ e ∷ cs) h = literal_triplet c d e [] h no_literals

-- one more item makes a longer literal
pub AreLiterals-more : (cs : List ℕ) (len n : ℕ) → AreLiterals (take len cs) → n ≡ literal_item_len (drop len cs) → AreLiterals (take (len + n) cs)
AreLiterals-more cs len n h e =
    rw (e, take-add) (AreLiterals-append (take len cs) (take (literal_item_len (drop len cs)) (drop len cs)) h (AreLiterals-item (drop len cs)))
