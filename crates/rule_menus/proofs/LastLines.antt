-- The last lines of an explanation say one thing.
use Rattle.std.proofs.Common.{◌≡◌, ℕ, List, [], ◌∷◌, ◌++◌, true, not, ◌==◌, Some, drop, get_or, ap, sym, ◌∙◌, codes, arith}
use Rattle.std.specs.Fmt.{decimal}
use Rattle.std.proofs.lemmas.Bool.{and_parts}
use Rattle.std.proofs.lemmas.Option.{same_Some}
use Rattle.std.proofs.lemmas.Grind.{common_steps}
use Rattle.text_model.specs.Texts.{Text}
use Rattle.menu.specs.Links.{link_under}
use Rattle.menu.specs.Printed.{resolution_text}
use Rattle.menu.specs.declared.entry.Resolution.{Resolution}
use Rattle.rule_menus.specs.Explanations.{EndAs, holding_line, last_line, space}
use Rattle.rule_menus.proofs.Lines.{lacks}
use Rattle.rule_menus.proofs.OneLine.{digits_lack}

-- what follows the first byte of its kind
after_first : (c : ℕ) (front other rest text : Text) → lacks c front ≡ true → lacks c other ≡ true → front ++ c ∷ rest ≡ other ++ c ∷ text → rest ≡ text
after_first c [] [] rest text x y same = cc
after_first c [] (b ∷ other) rest text x y same = grind (arith, common_steps)
after_first c (b ∷ front) [] rest text x y same = grind (arith, common_steps)
after_first c (b ∷ front) (d ∷ other) rest text x y same =
    let tails : front ++ c ∷ rest ≡ other ++ c ∷ text = cc in
    after_first c front other rest text (and_parts (not (b == c)) (lacks c front) x).1 (and_parts (not (d == c)) (lacks c other) y).1 tails

decimal_lacks : (n : ℕ) → lacks space (decimal n) ≡ true
decimal_lacks n = digits_lack space (omega arith) 10 n

same_link : (rule other : ℕ) (link text : Text) → holding_line rule link ≡ holding_line other text → link ≡ text
same_link rule other link text same =
    let rest : decimal rule ++ (codes " holds: " ++ link) ≡ decimal other ++ (codes " holds: " ++ text) = ap (drop 7) same in
    ap (drop 7)
    (after_first space (decimal rule) (decimal other) (codes "holds: " ++ link) (codes "holds: " ++ text) (decimal_lacks rule) (decimal_lacks other) rest)

module _ (lines : List Text) where
  one_line : (a b : Text) → last_line lines ≡ Some a → last_line lines ≡ Some b → a ≡ b
  one_line a b x y = same_Some a b (sym x ∙ y)

  -- the lines that can be the last one differ in their fifth byte
  marks : (a b : Text) → last_line lines ≡ Some a → last_line lines ≡ Some b → get_or a 4 0 ≡ get_or b 4 0
  marks a b x y = ap (λ (line : Text). get_or line 4 0) (one_line a b x y)

  abbrev IsSameText : (r other : Resolution) → Type 0
  IsSameText r other = (resolution_text r ≡ resolution_text other) × ((name : Text) → link_under name r ≡ link_under name other)

  one_text : (r other : Resolution) → EndAs lines r → EndAs lines other → IsSameText r other
  one_text r other x y = grind (arith, marks, same_Some, same_link, one_line)

  pub same_report : (r other : Resolution) → EndAs lines r → EndAs lines other → resolution_text r ≡ resolution_text other
  same_report r other x y = (one_text r other x y).0

  pub same_named_link : (name : Text) (r other : Resolution) → EndAs lines r → EndAs lines other → link_under name r ≡ link_under name other
  same_named_link name r other x y = (one_text r other x y).1 name
