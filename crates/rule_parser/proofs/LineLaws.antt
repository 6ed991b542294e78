-- A line has at most one statement, and lines have at most one list of statements.
use Rattle.std.proofs.Common.{arith, ◌≡◌, ℕ, List, [], ◌∷◌, ◌++◌, false, ◌⊎◌, inl, inr, map, refl, ap, sym, ◌∙◌, codes, if◌then◌else◌, ◌==◌, rules}
use Rattle.std.proofs.lemmas.Grind.{common_steps}
use Rattle.std.specs.List.{AllByRecursion}
use Rattle.std.specs.Str.{bytes_eq}
use Rattle.std.proofs.lemmas.Bool.{eqb-false}
use Rattle.std.proofs.lemmas.List.{append_cancel_left, append_cancel_right}
use Rattle.text_model.specs.Texts.{Text}
use Rattle.text_model.proofs.Lists.{same_parts}
use Rattle.rule_parser.specs.declared.rule.Bound.{Bound}
use Rattle.rule_parser.specs.declared.rule.Guard.{Guard}
use Rattle.rule_parser.specs.declared.rule.Guard.TheVariants as guard
use Rattle.rule_parser.specs.Rules.{IsBound, AreBounds, IsGuard}
use Rattle.rule_parser.specs.Statements.{Statement, Declare, Begin, When, Link, IsStatement, line_of, quoted, escaped, bound_text, bounds_text, guard_text}
use Rattle.rule_parser.proofs.TokenLemmas.{same_tails, other_heads, token_split, name_is_token, bound_is_token, star_is_no_name}
use Rattle.rule_parser.proofs.EscapeLemmas.{escaped_same}
use Rattle.rule_parser.proofs.GuardLemmas.{IsDefined, defined_tokens, IsCompared, compared_tokens}

-- ---- the parts of guards

quoted_same : (t u : Text) → quoted t ≡ quoted u → t ≡ u
quoted_same t u e = escaped_same t u (append_cancel_right (escaped t) (escaped u) (34 ∷ []) (same_tails 34 34 _ _ e))

bound_same : (b c : Bound) → IsBound b → IsBound c → bound_text b ≡ bound_text c → b ≡ c
bound_same b c h k e = grind (arith, star_is_no_name)

bounds_same : (b c d f : Bound) → AreBounds b c → AreBounds d f → bounds_text b c ≡ bounds_text d f → (b ≡ d) × (c ≡ f)
bounds_same b c d f h k e = grind (arith, token_split, bound_is_token, bound_same)

-- ---- guards

-- the guard of a verb and a name
abbrev guard_of : Text → Text → Guard
guard_of verb name = if bytes_eq verb (codes "has") then guard.Has name else (if bytes_eq verb (codes "lacks") then guard.Lacks name else guard.Given name)

defined_is : (verb name : Text) (g : Guard) → IsDefined verb name g → g ≡ guard_of verb name
defined_is verb name g p = grind (arith, common_steps)

defined_same : (verb name : Text) (g h : Guard) → IsDefined verb name g → IsDefined verb name h → g ≡ h
defined_same verb name g h p q = defined_is verb name g p ∙ sym (defined_is verb name h q)

-- the number of the kind of a guard
abbrev kind_of : Guard → ℕ
kind_of (guard.Has n) = 0
kind_of (guard.Lacks n) = 1
kind_of (guard.Given n) = 2
kind_of (guard.Same n t) = 3
kind_of (guard.Holds n t) = 4
kind_of (guard.Between n low high) = 5
kind_of (guard.Counts n low high) = 6

-- the same number, from its verb
abbrev kind_by : Text → ℕ
kind_by verb =
    if bytes_eq verb (codes "is") then 3 else (if bytes_eq verb (codes "holds") then 4 else (if bytes_eq verb (codes "from") then 5 else 6))

kind_is : (name verb value : Text) (g : Guard) → IsCompared name verb value g → kind_of g ≡ kind_by verb
kind_is name verb value g p = grind (arith, common_steps)

other_kinds : (name verb value : Text) (g h : Guard) → (kind_of g == kind_of h) ≡ false → IsCompared name verb value g → IsCompared name verb value h → ⊥
other_kinds name verb value g h n p q = eqb-false (kind_of g) (kind_of h) n (kind_is name verb value g p ∙ sym (kind_is name verb value h q))

compared_same : (name verb value : Text) (g h : Guard) → IsCompared name verb value g → IsCompared name verb value h → g ≡ h
compared_same name verb value (guard.Has n) h p q = absurd p
compared_same name verb value (guard.Lacks n) h p q = absurd p
compared_same name verb value (guard.Given n) h p q = absurd p
compared_same name verb value (guard.Same n t) (guard.Same m u) p q =
    ap (λ x. guard.Same x t) (p.3 ∙ sym q.3) ∙ ap (λ x. guard.Same m x) (quoted_same t u (sym p.2 ∙ q.2))
compared_same name verb value (guard.Holds n t) (guard.Holds m u) p q =
    ap (λ x. guard.Holds x t) (p.3 ∙ sym q.3) ∙ ap (λ x. guard.Holds m x) (quoted_same t u (sym p.2 ∙ q.2))
compared_same name verb value (guard.Between n b c) (guard.Between m d f) p q =
    let same = bounds_same b c d f p.2 q.2 (sym p.3 ∙ q.3) in
    ap (λ x. guard.Between x b c) (p.4 ∙ sym q.4) ∙ ap (λ x. guard.Between m x c) same.0 ∙ ap (λ x. guard.Between m d x) same.1
compared_same name verb value (guard.Counts n b c) (guard.Counts m d f) p q =
    let same = bounds_same b c d f p.2 q.2 (sym p.3 ∙ q.3) in
    ap (λ x. guard.Counts x b c) (p.4 ∙ sym q.4) ∙ ap (λ x. guard.Counts m x c) same.0 ∙ ap (λ x. guard.Counts m d x) same.1
compared_same name verb value g h p q = absurd (other_kinds name verb value g h refl p q)

guard_same : (g h : Guard) → IsGuard g → IsGuard h → guard_text g ≡ guard_text h → g ≡ h
guard_same (guard.Has n) h a b e =
    defined_same (codes "has") n (guard.Has n) h (a, refl, refl) (defined_tokens (codes "has") n (search rules) (name_is_token n a) h b e)
guard_same (guard.Lacks n) h a b e =
    defined_same (codes "lacks") n (guard.Lacks n) h (a, refl, refl) (defined_tokens (codes "lacks") n (search rules) (name_is_token n a) h b e)
guard_same (guard.Given n) h a b e =
    defined_same (codes "given") n (guard.Given n) h (a, refl, refl) (defined_tokens (codes "given") n (search rules) (name_is_token n a) h b e)
guard_same (guard.Same n t) h a b e =
    compared_same n (codes "is") (quoted t) (guard.Same n t) h (a, refl, refl, refl)
    (compared_tokens n (codes "is") (quoted t) (name_is_token n a) (search rules) h b e)
guard_same (guard.Holds n t) h a b e =
    compared_same n (codes "holds") (quoted t) (guard.Holds n t) h (a, refl, refl, refl)
    (compared_tokens n (codes "holds") (quoted t) (name_is_token n a) (search rules) h b e)
guard_same (guard.Between n c d) h a b e =
    compared_same n (codes "from") (bounds_text c d) (guard.Between n c d) h (a.0, refl, a.1, refl, refl)
    (compared_tokens n (codes "from") (bounds_text c d) (name_is_token n a.0) (search rules) h b e)
guard_same (guard.Counts n c d) h a b e =
    compared_same n (codes "counts") (bounds_text c d) (guard.Counts n c d) h (a.0, refl, a.1, refl, refl)
    (compared_tokens n (codes "counts") (bounds_text c d) (name_is_token n a.0) (search rules) h b e)

-- ---- lines

pub statement_same : (s t : Statement) → IsStatement s → IsStatement t → line_of s ≡ line_of t → s ≡ t
statement_same (Declare n) (Declare m) a b e = ap Declare (append_cancel_left (codes "list ") n m e)
statement_same (Declare n) Begin a b e = absurd (other_heads 108 114 _ _ refl e)
statement_same (Declare n) (When g) a b e = absurd (other_heads 108 119 _ _ refl e)
statement_same (Declare n) (Link t) a b e = absurd (other_heads 115 110 _ _ refl (same_tails 105 105 _ _ (same_tails 108 108 _ _ e)))
statement_same Begin (Declare n) a b e = absurd (other_heads 114 108 _ _ refl e)
statement_same Begin Begin a b e = refl
statement_same Begin (When g) a b e = absurd (other_heads 114 119 _ _ refl e)
statement_same Begin (Link t) a b e = absurd (other_heads 114 108 _ _ refl e)
statement_same (When g) (Declare n) a b e = absurd (other_heads 119 108 _ _ refl e)
statement_same (When g) Begin a b e = absurd (other_heads 119 114 _ _ refl e)
statement_same (When g) (When h) a b e = ap When (guard_same g h a b (append_cancel_left (codes "when ") (guard_text g) (guard_text h) e))
statement_same (When g) (Link t) a b e = absurd (other_heads 119 108 _ _ refl e)
statement_same (Link t) (Declare n) a b e = absurd (other_heads 110 115 _ _ refl (same_tails 105 105 _ _ (same_tails 108 108 _ _ e)))
statement_same (Link t) Begin a b e = absurd (other_heads 108 114 _ _ refl e)
statement_same (Link t) (When g) a b e = absurd (other_heads 108 119 _ _ refl e)
statement_same (Link t) (Link u) a b e = ap Link (append_cancel_left (codes "link ") t u e)

abbrev pub AreStatements : List Statement → Type 0
AreStatements ss = AllByRecursion IsStatement ss

-- one more statement after others, on the next line
pub record HasNext (ss longer : List Statement) (lines : List Text) : Type 0 where
  pub next : Statement
  pub more : List Statement
  pub rest : List Text
  pub continues : longer ≡ ss ++ next ∷ more
  pub is_statement : IsStatement next
  pub spelled : lines ≡ line_of next ∷ rest

-- Of two lists of statements at the beginning of the same lines, one is the beginning of the other.
pub compare : (ss ts : List Statement) (rest following : List Text) → AreStatements ss → AreStatements ts → map line_of ss ++ rest ≡ map line_of ts ++ following
    → ((ss ≡ ts) × (rest ≡ following)) ⊎ (HasNext ss ts rest ⊎ HasNext ts ss following)
compare [] [] rest following a b e = inl (refl, e)
compare [] (t ∷ ts) rest following a b e =
    inr (inl (record { next = t; more = ts; rest = map line_of ts ++ following; continues = refl; is_statement = b.0; spelled = e }))
compare (s ∷ ss) [] rest following a b e =
    inr (inr (record { next = s; more = ss; rest = map line_of ss ++ rest; continues = refl; is_statement = a.0; spelled = sym e }))
compare (s ∷ ss) (t ∷ ts) rest following a b e =
    with_head (statement_same s t a.0 b.0 (same_parts _ _ _ _ e).0) (compare ss ts rest following a.1 b.1 (same_parts _ _ _ _ e).1)
  where
    with_head : s ≡ t → ((ss ≡ ts) × (rest ≡ following)) ⊎ (HasNext ss ts rest ⊎ HasNext ts ss following)
        → ((s ∷ ss ≡ t ∷ ts) × (rest ≡ following)) ⊎ (HasNext (s ∷ ss) (t ∷ ts) rest ⊎ HasNext (t ∷ ts) (s ∷ ss) following)
    with_head f h = grind (arith, common_steps)
