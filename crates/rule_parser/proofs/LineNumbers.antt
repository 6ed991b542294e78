-- The numbers of lines: the statement after that many others has the number of its line.
use Rattle.std.proofs.Common.{◌≡◌, ℕ, ◌+◌, ◌<◌, zero, suc, List, [], ◌∷◌, ◌++◌, Bool, true, false, Some, map, length, get_or, take, inl, inr, if◌then◌else◌}
use Rattle.std.proofs.lemmas.Grind.{common_steps}
use Rattle.std.proofs.Common.{refl, ap, subst, sym, ◌∙◌, arith}
use Rattle.std.specs.List.{slice_index}
use Rattle.std.proofs.lemmas.List.{length-map, length-take, append_assoc, map-append}
use Rattle.text_model.specs.Texts.{Text}
use Rattle.rule_parser.specs.declared.error.RuleErrorKind.{RuleErrorKind}
use Rattle.rule_parser.specs.declared.error.RuleErrorKind.TheVariants as kind
use Rattle.rule_parser.specs.declared.rule.Guard.{Guard}
use Rattle.rule_parser.specs.Rules.{RuleSet}
use Rattle.rule_parser.specs.Statements.{Statement, Begin, When, line_of, statements}
use Rattle.rule_parser.specs.Grammar.{is_significant, significant}
use Rattle.rule_parser.specs.Faults.{RulesSoFar, AreSoundSoFar, statements_so_far, statements_of_guards, EndsRule, IsLineFault, IsFirstRuleError}

-- ---- significant lines

-- the numbers of the significant lines, if the first line has this number
abbrev pub significant_numbers : ℕ → List Text → List ℕ
significant_numbers n [] = []
significant_numbers n (line ∷ ls) = if is_significant line then (n ∷ significant_numbers (n + 1) ls) else significant_numbers (n + 1) ls

-- the number of the line after that many significant ones, counted from 1
abbrev pub line_number : List Text → ℕ → ℕ
line_number ls k = slice_index (significant_numbers 1 ls) k

-- the number of a significant line
pub number_at : (n : ℕ) (front rest : List Text) (x : Text) → is_significant x ≡ true
    → slice_index (significant_numbers n (front ++ x ∷ rest)) (length (significant front)) ≡ n + length front
number_at n [] rest x e = ap (λ (y : Bool). slice_index (if y then (n ∷ significant_numbers (n + 1) rest) else significant_numbers (n + 1) rest) 0) e
    ∙ omega arith
number_at n (y ∷ front) rest x e = by_case (is_significant y) (number_at (n + 1) front rest x e)
  where
    by_case : (b : Bool) → slice_index (significant_numbers (n + 1) (front ++ x ∷ rest)) (length (significant front)) ≡ n + 1 + length front
        → slice_index (if b then (n ∷ significant_numbers (n + 1) (front ++ x ∷ rest)) else significant_numbers (n + 1) (front ++ x ∷ rest))
        (length (if b then (y ∷ significant front) else significant front)) ≡ n + length (y ∷ front)
    by_case b h = grind (arith, common_steps)

-- the line at an index
pub split_at : (ls : List Text) (i : ℕ) (line : Text) → i < length ls → get_or ls i line ≡ line → (rest : List Text) × (ls ≡ take i ls ++ line ∷ rest)
split_at [] i line h e = absurd (omega arith)
split_at (x ∷ xs) zero line h e = (xs, ap (λ y. y ∷ xs) e)
split_at (x ∷ xs) (suc i) line h e = let r = split_at xs i line (omega arith) e in (r.0, ap (λ l. x ∷ l) r.1)

-- the lines before, one line, and the lines after
pub significant_around : (ls front rest : List Text) (line : Text) → ls ≡ front ++ line ∷ rest → is_significant line ≡ true
    → significant ls ≡ significant front ++ line ∷ significant rest
significant_around ls front rest line e h = grind (arith, common_steps)

-- the number of a line after those of these statements
number_after : (ls front following : List Text) (line : Text) (ss : List Statement) → ls ≡ front ++ line ∷ following → is_significant line ≡ true
    → significant front ≡ map line_of ss → line_number ls (length ss) ≡ length front + 1
number_after ls front following line ss e h s = grind (arith, length-map, number_at)

-- the number of the line after those that were read
pub number_is : (ls : List Text) (i : ℕ) (ss : List Statement) (line : Text) → i < length ls → get_or ls i line ≡ line → is_significant line ≡ true
    → significant (take i ls) ≡ map line_of ss → line_number ls (length ss) ≡ i + 1
number_is ls i ss line h e x s =
    let split = split_at ls i line h e in
    number_after ls (take i ls) split.0 line ss split.1 x s ∙ ap (λ n. n + 1) (length_take i ls h)
  where
    length_take : (n : ℕ) (xs : List Text) → n < length xs → length (take n xs) ≡ n
    length_take n xs l = simp length-take (omega arith)

-- ---- first errors, by the numbers of their statements

pub data IsNumberedFault : List Text → RuleErrorKind → ℕ → Type 0 where
  line_fault : (ls : List Text) (started : RulesSoFar) (line : Text) (rest : List Text) (k : RuleErrorKind) → AreSoundSoFar started
      → significant ls ≡ map line_of (statements_so_far started) ++ line ∷ rest → IsLineFault started line k
      → IsNumberedFault ls k (line_number ls (length (statements_so_far started)))
  open_rule : (ls : List Text) (whole : RuleSet) (guards : List Guard) (rest : List Text) → AreSoundSoFar (record { whole = whole; guards = Some guards })
      → significant ls ≡ map line_of (statements whole ++ statements_of_guards (Some guards)) ++ rest → EndsRule rest
      → IsNumberedFault ls kind.NoLink (line_number ls (length (statements whole)))

pub numbered_fault : (ls : List Text) (k : RuleErrorKind) (at : ℕ) → IsFirstRuleError ls k at → IsNumberedFault ls k at
numbered_fault ls k at (inl f) =
    subst (IsNumberedFault ls k) (number_after ls f.before f.following f.line (statements_so_far f.started) f.whole f.is_no_comment f.spelled ∙ sym f.counted)
    (line_fault ls f.started f.line (significant f.following) k f.sound
    (significant_around ls f.before f.following f.line f.whole f.is_no_comment ∙ ap (λ l. l ++ f.line ∷ significant f.following) f.spelled) f.faulty)
numbered_fault ls k at (inr f) =
    subst (λ x. IsNumberedFault ls x at) (sym f.no_link)
    (subst (IsNumberedFault ls kind.NoLink) (number_after ls f.before f.following (line_of Begin) (statements f.rules) f.whole refl f.spelled ∙ sym f.counted)
    (open_rule ls f.rules f.guards f.rest f.sound spelled f.ends))
  where
    spelled : significant ls ≡ map line_of (statements f.rules ++ statements_of_guards (Some f.guards)) ++ f.rest
    spelled = grind (arith, common_steps)

-- a significant line, with the lines before and after it
record SplitsAt (ls before : List Text) (line : Text) (following : List Text) : Type 0 where
  front : List Text
  back : List Text
  whole : ls ≡ front ++ line ∷ back
  before_it : significant front ≡ before
  after_it : significant back ≡ following
  is_no_comment : is_significant line ≡ true

splits_at : (ls before : List Text) (line : Text) (following : List Text) → significant ls ≡ before ++ line ∷ following → SplitsAt ls before line following
splits_at [] [] line following e = absurd (let never : [] ≡ line ∷ following = e in cc)
splits_at [] (x ∷ before) line following e = absurd (let never : [] ≡ x ∷ before ++ line ∷ following = e in cc)
splits_at (l ∷ ls) before line following e = by_case (is_significant l) refl before e (λ front. splits_at ls front line following)
  where
    by_case : (b : Bool) → is_significant l ≡ b → (front : List Text) → (if b then (l ∷ significant ls) else significant ls) ≡ front ++ line ∷ following
        → ((xs : List Text) → significant ls ≡ xs ++ line ∷ following → SplitsAt ls xs line following) → SplitsAt (l ∷ ls) front line following
    by_case true h [] f next =
        let same : l ≡ line = cc in
        record { front = []; back = ls; whole = ap (λ x. x ∷ ls) same; before_it = refl; after_it = cc; is_no_comment = sym (ap is_significant same) ∙ h }
    by_case true h (x ∷ front) f next =
        let more = next front (cc) in
        record {
          front = l ∷ more.front;
          back = more.back;
          whole = ap (λ t. l ∷ t) more.whole;
          before_it = grind (arith, common_steps);
          after_it = more.after_it;
          is_no_comment = more.is_no_comment;
        }
    by_case false h front f next =
        let more = next front f in
        record {
          front = l ∷ more.front;
          back = more.back;
          whole = ap (λ t. l ∷ t) more.whole;
          before_it = ap (λ (b : Bool). if b then (l ∷ significant more.front) else significant more.front) h ∙ more.before_it;
          after_it = more.after_it;
          is_no_comment = more.is_no_comment;
        }

pub first_fault : (ls : List Text) (k : RuleErrorKind) (at : ℕ) → IsNumberedFault ls k at → IsFirstRuleError ls k at
first_fault ls k at (line_fault l b line rest k' s e f) =
    let split = splits_at l (map line_of (statements_so_far b)) line rest e in
    inl (record {
      before = split.front;
      line = line;
      following = split.back;
      started = b;
      whole = split.whole;
      counted = number_after l split.front split.back line (statements_so_far b) split.whole split.is_no_comment split.before_it;
      spelled = split.before_it;
      sound = s;
      is_no_comment = split.is_no_comment;
      faulty = f;
    })
first_fault ls k at (open_rule l whole guards rest s e r) =
    let around =
    e ∙ ap (λ t. t ++ rest) (map-append line_of (statements whole) (statements_of_guards (Some guards)))
    ∙ append_assoc (map line_of (statements whole)) (map line_of (statements_of_guards (Some guards))) rest in
    let split = splits_at l (map line_of (statements whole)) (line_of Begin) (map line_of (map When guards) ++ rest) around in
    inr (record {
      before = split.front;
      following = split.back;
      rules = whole;
      guards = guards;
      rest = rest;
      whole = split.whole;
      counted = number_after l split.front split.back (line_of Begin) (statements whole) split.whole refl split.before_it;
      spelled = split.before_it;
      guarded = split.after_it;
      ends = r;
      sound = s;
      no_link = refl;
    })
