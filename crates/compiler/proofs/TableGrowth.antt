-- The place of an entry in a table. A table that grows by the entries that are used has each of them once, in the order of first use.
use Rattle.std.proofs.Common.{Bool, List, None, Option, Some, [], false, refl, sym, true, ◌++◌, ◌∷◌, ◌≡◌}
use Rattle.std.proofs.Common.{ap, ◌∙◌, subst}
use Rattle.std.specs.Prelude.{◌||◌, not, filter, if◌then◌else◌}
use Rattle.std.specs.List.{cons_option, filter_map, list_any}
use Rattle.std.specs.Bool.{Decides}
use Rattle.std.proofs.lemmas.Bool.{false≢true}
use Rattle.std.proofs.lemmas.List.{append_assoc, append-nil}
use Rattle.std.proofs.lemmas.List.Elements.{filter-append, filter_map-append}
use Rattle.compiler_model.specs.declared.lines.Line.{Line}
use Rattle.compiler_model.specs.Tables.{is_same_name, is_same_literal, name_used, literal_used, firsts, names_of, literals_of}
use Rattle.compiler_model.proofs.Entries.{same_names, same_literals}
use Rattle.compiler.specs.Private.Growth.{added, gathered, with_entry}
use Rattle.compiler.specs.Private.RuleLines.{with_fail}
use Rattle.compiler.proofs.RuleSteps.{with_fail_more}

pub gathered_entry : {X : Type 0} (same : X → X → Bool) (xs : List X) (o : Option X) (ys : List X) → gathered same xs (cons_option o ys)
    ≡ gathered same (with_entry same xs o) ys
gathered_entry same xs None ys = refl
gathered_entry same xs (Some x) ys = refl

module _ {X : Type 0} (same : X → X → Bool) (decides : (x y : X) → Decides (same x y) (x ≡ y)) where
  -- whether an entry is present does not change when another one is removed
  among_others : (x y : X) (ys : List X) → same x y ≡ false → list_any (same x) (filter (λ z. not (same y z)) ys) ≡ list_any (same x) ys
  among_others x y [] d = refl
  among_others x y (z ∷ ys) d = by_test (same y z) refl (among_others x y ys d)
    where
      by_test : (b : Bool) → same y z ≡ b → list_any (same x) (filter (λ z. not (same y z)) ys) ≡ list_any (same x) ys
          → list_any (same x) (if not b then (z ∷ filter (λ z. not (same y z)) ys) else filter (λ z. not (same y z)) ys) ≡ (same x z || list_any (same x) ys)
      by_test true e rest = subst (λ w. list_any (same x) (filter (λ z. not (same y z)) ys) ≡ (same x w || list_any (same x) ys)) ((decides y z).0 e)
          (rw d rest)
      by_test false e rest = ap (λ b. same x z || b) rest

  firsts_push : (xs : List X) (x : X) → firsts same (xs ++ x ∷ []) ≡ added same (firsts same xs) x
  firsts_push [] x = refl
  firsts_push (y ∷ xs) x = ap (λ zs. y ∷ filter (λ z. not (same y z)) zs) (firsts_push xs x) ∙ by_test (same x y) refl (list_any (same x) (firsts same xs)) refl
    where
      by_test : (b : Bool) → same x y ≡ b → (c : Bool) → list_any (same x) (firsts same xs) ≡ c
          → y ∷ filter (λ z. not (same y z)) (if c then firsts same xs else (firsts same xs ++ x ∷ []))
          ≡ (if same x y || list_any (same x) (filter (λ z. not (same y z)) (firsts same xs)) then (y ∷ filter (λ z. not (same y z)) (firsts same xs))
          else ((y ∷ filter (λ z. not (same y z)) (firsts same xs)) ++ x ∷ []))
      by_test true e true f = rw e refl
      by_test true e false f =
          let mirrored : same y x ≡ true = (decides y x).1 (sym ((decides x y).0 e)) in
          rw e (ap (λ zs. y ∷ zs) (filter-append (λ z. not (same y z)) (firsts same xs) (x ∷ [])
          ∙ rw mirrored (append-nil (filter (λ z. not (same y z)) (firsts same xs)))))
      by_test false e true f = rw (e, among_others x y (firsts same xs) e, f) refl
      by_test false e false f =
          rw (e, among_others x y (firsts same xs) e, f)
          (ap (λ zs. y ∷ zs) (filter-append (λ z. not (same y z)) (firsts same xs) (x ∷ []) ∙ rw (unlike (same y x) refl) refl))
        where
          unlike : (b : Bool) → same y x ≡ b → same y x ≡ false
          unlike true g = absurd (false≢true (sym e ∙ (decides x y).1 (sym ((decides y x).0 g))))
          unlike false g = g

  -- a table of earlier entries, after further entries
  pub gathered_firsts : (xs ys : List X) → gathered same (firsts same xs) ys ≡ firsts same (xs ++ ys)
  gathered_firsts xs [] = ap (firsts same) (sym (append-nil xs))
  gathered_firsts xs (y ∷ ys) =
      ap (λ table. gathered same table ys) (sym (firsts_push xs y)) ∙ gathered_firsts (xs ++ y ∷ []) ys ∙ ap (firsts same) (append_assoc xs (y ∷ []) ys)

gathered-append : {X : Type 0} (same : X → X → Bool) (xs ys zs : List X) → gathered same xs (ys ++ zs) ≡ gathered same (gathered same xs ys) zs
gathered-append same xs [] zs = refl
gathered-append same xs (y ∷ ys) zs = gathered-append same (added same xs y) ys zs

-- a table after some lines and then later lines
pub gathered_lines : {X : Type 0} (same : X → X → Bool) (used : Line → Option X) (xs : List X) (a b : List Line) → gathered same xs (filter_map used (a ++ b))
    ≡ gathered same (gathered same xs (filter_map used a)) (filter_map used b)
gathered_lines same used xs a b = ap (gathered same xs) (filter_map-append used a b) ∙ gathered-append same xs (filter_map used a) (filter_map used b)

pub all_names : (ls : List Line) → gathered is_same_name [] (filter_map name_used ls) ≡ names_of ls
all_names ls = gathered_firsts is_same_name same_names [] (filter_map name_used ls)

pub all_literals : (ls : List Line) → gathered is_same_literal [] (filter_map literal_used ls) ≡ literals_of ls
all_literals ls = gathered_firsts is_same_literal same_literals [] (filter_map literal_used ls)

-- the lines of one more rule
pub gather_step : {X : Type 0} (same : X → X → Bool) (used : Line → Option X) (table new : List X) (before rest : List (List Line)) (ls lines : List Line)
    (whole : List X) → before ≡ lines ∷ rest → ls ≡ lines → new ≡ gathered same table (filter_map used ls)
    → gathered same table (filter_map used (with_fail before)) ≡ whole → gathered same new (filter_map used (with_fail rest)) ≡ whole
gather_step same used table new before rest ls lines whole next made grown so_far =
    ap (λ t. gathered same t (filter_map used (with_fail rest))) (grown ∙ ap (λ x. gathered same table (filter_map used x)) made)
    ∙ sym (gathered_lines same used table lines (with_fail rest))
    ∙ sym (ap (λ x. gathered same table (filter_map used x)) (ap with_fail next ∙ with_fail_more lines rest))
    ∙ so_far
