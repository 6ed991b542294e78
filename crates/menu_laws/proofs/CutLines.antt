-- Lines of a name, a tab and a text, and what a reader gets from them.
use Rattle.std.proofs.Common.{◌≡◌, ℕ, ◌-◌, Bool, true, false, cond, not, ◌||◌, List, [], ◌∷◌, ◌++◌, length, get_or, refl, sym}
use Rattle.std.proofs.Common.{ap, ◌∙◌, subst, arith, codes}
use Rattle.std.proofs.Common.{append_assoc}
use Rattle.std.specs.Prelude.{◌==◌, All, map, filter}
use Rattle.std.specs.List.{after_first, before_first, flat_map, onto_first, position_or_len, slice_split}
use Rattle.std.specs.Str.Lines.{lines, lines_of_parts, strip_carriage_return}
use Rattle.std.proofs.lemmas.Bool.Decides.{nat_tests}
use Rattle.std.proofs.lemmas.List.Elements.{All-append, All-cons, All-head, All-tail, All-weaker}
use Rattle.std.proofs.lemmas.List.Splits.{slice_split_at}
use Rattle.std.proofs.Math.Seq.{drop-append-add, take-append_seam}
use Rattle.text_model.specs.Texts.{Text}
use Rattle.menu_laws.specs.Lines.{is_tab, named_line}

-- a byte within a line, and one of a name
abbrev pub is_in_line : ℕ → Bool
is_in_line b = not (b == 10 || b == 13)

abbrev pub is_in_name : ℕ → Bool
is_in_name b = not (b == 10 || (b == 13 || b == 9))

name_in_line : (b : ℕ) → is_in_name b ≡ true → is_in_line b ≡ true
name_in_line b e = grind (arith, nat_tests)

name_no_tab : (b : ℕ) → is_in_name b ≡ true → is_tab b ≡ false
name_no_tab b e = grind (arith, nat_tests)

line_no_feed : (b : ℕ) → is_in_line b ≡ true → (b == 10) ≡ false
line_no_feed b e = grind (arith, nat_tests)

line_no_return : (b : ℕ) → is_in_line b ≡ true → (b == 13) ≡ false
line_no_return b e = grind (arith, nat_tests)

-- ---- one line

-- a text has at least one part between line feeds
pub record HasParts (parts : List Text) : Type 0 where
  pub first : Text
  pub others : List Text
  pub are : parts ≡ first ∷ others

more_parts : (b : ℕ) (c : Bool) (parts : List Text) → HasParts (cond c ([] ∷ parts) (onto_first b parts))
more_parts b true parts = record { first = []; others = parts; are = refl }
more_parts b false [] = record { first = b ∷ []; others = []; are = refl }
more_parts b false (part ∷ parts) = record { first = b ∷ part; others = parts; are = refl }

has_parts : (text : Text) → HasParts (slice_split (λ b. b == 10) text)
has_parts [] = record { first = []; others = []; are = refl }
has_parts (b ∷ text) = more_parts b (b == 10) (slice_split (λ b. b == 10) text)

nothing_stripped : (line : Text) → All (λ b. is_in_line b ≡ true) line → strip_carriage_return line ≡ line
nothing_stripped [] all = refl
nothing_stripped (b ∷ line) all =
    let last = get_or (b ∷ line) (length (b ∷ line) - 1) 0 in
    let is : (last == 13) ≡ false = line_no_return last (all (length (b ∷ line) - 1) 0 (omega arith)) in
    rw is refl

line_first : (line rest : Text) → All (λ b. is_in_line b ≡ true) line → lines (line ++ (10 ∷ rest)) ≡ line ∷ lines rest
line_first line rest all =
    let p = has_parts rest in
    let cut = slice_split_at (λ b. b == 10) line 10 rest (All-weaker (λ b. is_in_line b ≡ true) (λ b. (b == 10) ≡ false) line_no_feed line all) refl in
    ap lines_of_parts cut
    ∙ subst (λ (parts : List Text). lines_of_parts (line ∷ parts) ≡ line ∷ lines_of_parts parts) (sym p.are)
    (ap (λ (l : Text). l ∷ lines_of_parts (p.first ∷ p.others)) (nothing_stripped line all))

-- ---- a name before the first tab

tab_after : (name rest : Text) → All (λ b. is_in_name b ≡ true) name → position_or_len is_tab (name ++ (9 ∷ rest)) ≡ length name
tab_after [] rest all = refl
tab_after (b ∷ name) rest all =
    let here = name_no_tab b (All-head (λ b. is_in_name b ≡ true) b name all) in
    let more = tab_after name rest (All-tail (λ b. is_in_name b ≡ true) b name all) in
    rw here (omega (arith, more))

pub name_before : (name rest : Text) → All (λ b. is_in_name b ≡ true) name → before_first is_tab (name ++ (9 ∷ rest)) ≡ name
name_before name rest all = rw (tab_after name rest all) (take-append_seam name (9 ∷ rest))

pub rest_after : (name rest : Text) → All (λ b. is_in_name b ≡ true) name → after_first is_tab (name ++ (9 ∷ rest)) ≡ rest
rest_after name rest all = rw (tab_after name rest all) (drop-append-add name (9 ∷ rest) 1)

-- ---- lines of items

module _ {X : Type 0} (name rest : X → Text) where
  -- what stands for an item, and what of it is a line
  abbrev pub written : X → Text
  written x = name x ++ (codes "\t" ++ (rest x ++ codes "\n"))

  abbrev pub line : X → Text
  line x = name x ++ (9 ∷ rest x)

  -- the name has no tab, and neither part has the end of a line
  pub record IsLined (x : X) : Type 0 where
    pub name_within : All (λ b. is_in_name b ≡ true) (name x)
    pub rest_within : All (λ b. is_in_line b ≡ true) (rest x)

  in_line : (x : X) → IsLined x → All (λ b. is_in_line b ≡ true) (line x)
  in_line x h =
      All-append (λ b. is_in_line b ≡ true) (name x) (9 ∷ rest x)
      (All-weaker (λ b. is_in_name b ≡ true) (λ b. is_in_line b ≡ true) name_in_line (name x) h.name_within)
      (All-cons (λ b. is_in_line b ≡ true) 9 (rest x) refl h.rest_within)

  regrouped : (n r more : Text) → (n ++ (codes "\t" ++ (r ++ codes "\n"))) ++ more ≡ (n ++ (9 ∷ r)) ++ (10 ∷ more)
  regrouped n r more = simp append_assoc

  -- one line for each item
  pub one_line_each : (xs : List X) → All IsLined xs → lines (flat_map written xs) ≡ map line xs
  one_line_each [] all = refl
  one_line_each (x ∷ xs) all =
      let more = flat_map written xs in
      ap lines (regrouped (name x) (rest x) more)
      ∙ line_first (line x) more (in_line x (All-head IsLined x xs all))
      ∙ ap (λ (ls : List Text). line x ∷ ls) (one_line_each xs (All-tail IsLined x xs all))

  -- the lines whose names pass a test are those of the items whose names pass it
  abbrev passing : (Text → Bool) → List X → List Text
  passing test xs = filter (λ l. test (before_first is_tab l)) (map line xs)

  pub lines_that_pass : (test : Text → Bool) (xs : List X) → All IsLined xs → passing test xs ≡ map line (filter (λ x. test (name x)) xs)
  lines_that_pass test [] all = refl
  lines_that_pass test (x ∷ xs) all =
      let h : IsLined x = All-head IsLined x xs all in
      ap (λ (n : Text). cond (test n) (line x ∷ passing test xs) (passing test xs)) (name_before (name x) (rest x) h.name_within)
      ∙ by_test (test (name x)) (lines_that_pass test xs (All-tail IsLined x xs all))
    where
      by_test : (b : Bool) → passing test xs ≡ map line (filter (λ x. test (name x)) xs)
          → cond b (line x ∷ passing test xs) (passing test xs)
          ≡ map line (cond b (x ∷ filter (λ x. test (name x)) xs) (filter (λ x. test (name x)) xs))
      by_test true is = ap (λ (ls : List Text). line x ∷ ls) is
      by_test false is = is

  -- cut again
  pub lines_cut : (xs : List X) → All IsLined xs → map named_line (map line xs) ≡ map (λ x. record { name = name x; link = rest x }) xs
  lines_cut [] all = refl
  lines_cut (x ∷ xs) all =
      let h : IsLined x = All-head IsLined x xs all in
      let first : named_line (line x) ≡ record { name = name x; link = rest x } =
      ap (λ (n : Text). record { name = n; link = after_first is_tab (line x) }) (name_before (name x) (rest x) h.name_within)
      ∙ ap (λ (r : Text). record { name = name x; link = r }) (rest_after (name x) (rest x) h.name_within) in
      let others = lines_cut xs (All-tail IsLined x xs all) in
      cc
