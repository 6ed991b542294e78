-- A text has one tree or one first error, and not both.

use Rattle.std.proofs.Common.{◌≡◌, ◌≢◌, ℕ, List, [], ◌∷◌, ◌++◌, length, refl, ap, ◌∙◌, sym, subst, arith, length-append}
use Rattle.std.proofs.lemmas.Bool.{both_ways}
use Rattle.std.proofs.lemmas.List.Elements.{All-nil}
use Rattle.std.proofs.lemmas.Grind.{common_steps}
use Rattle.uri_grammar.specs.Characters.{comma}
use Rattle.uri_grammar.specs.declared.error.TemplateErrorKind.{TemplateErrorKind}
use Rattle.uri_grammar.specs.declared.parts.Op.{Op}
use Rattle.uri_grammar.specs.declared.parts.Spec.{Spec}
use Rattle.uri_grammar.specs.Specs.{IsSpec, Lacks, BeginsWithSpec, SpellsSpecs}
use Rattle.uri_grammar.specs.Expressions.{operator_text, begins_with_reserved, IsBody}
use Rattle.uri_grammar.specs.Faults.{IsSpecFault, IsListFault, IsBodyFault, reserved_operator, bad_list}
use Rattle.uri_grammar.proofs.RunLemmas.{split_same}
use Rattle.uri_grammar.proofs.NameLemmas.{length-varname}
use Rattle.uri_grammar.proofs.SpecLemmas.{spec_before, spec_same, spec_no_fault, spec_one_fault}
use Rattle.uri_grammar.proofs.ExpressionLemmas.{operator_same}

-- ---- specs and commas

-- the text does not begin with a spec and a comma
record NoSpec (cs : List ℕ) : Type 0 where
  pub never : (rest : List ℕ) (spec : Spec) → BeginsWithSpec cs spec rest → ⊥

no_cut : (piece rest : List ℕ) → [] ≡ piece ++ comma ∷ rest → ⊥
no_cut [] rest e = cc
no_cut (c ∷ piece) rest e = cc

nothing_no_spec : NoSpec []
nothing_no_spec = record { never = λ rest spec h. no_cut h.piece rest h.whole }

fault_no_spec : (cs piece after : List ℕ) (k : TemplateErrorKind) (d : ℕ) → cs ≡ piece ++ comma ∷ after → Lacks comma piece → IsSpecFault piece k d → NoSpec cs
fault_no_spec cs piece after k d e l f = record {
  never = λ rest spec h.
      spec_no_fault h.piece spec k d h.is_spec
      (subst (λ (t : List ℕ). IsSpecFault t k d) (split_same comma piece h.piece after rest l h.lacks (sym e ∙ h.whole)).0 f);
}

-- specs, and then a text that no spec begins, in only one way
specs_same : (ss ts : List Spec) (front other rest following : List ℕ) → SpellsSpecs front ss → SpellsSpecs other ts → NoSpec rest → NoSpec following
    → front ++ rest ≡ other ++ following → (ss ≡ ts) × (front ≡ other) × (rest ≡ following)
specs_same [] [] front other rest following h k n m e =
    (refl, h ∙ sym k, ap (λ (t : List ℕ). t ++ rest) (sym h) ∙ (e ∙ ap (λ (t : List ℕ). t ++ following) k))
specs_same [] (t ∷ ts) front other rest following h k n m e =
    let b = spec_before other k.0 following t k.1 in
    absurd (n.never (k.0 ++ following) t (subst (λ (x : List ℕ). BeginsWithSpec x t (k.0 ++ following)) (sym e ∙ ap (λ (x : List ℕ). x ++ rest) h) b))
specs_same (s ∷ ss) [] front other rest following h k n m e =
    let b = spec_before front h.0 rest s h.1 in
    absurd (m.never (h.0 ++ rest) s (subst (λ (x : List ℕ). BeginsWithSpec x s (h.0 ++ rest)) (e ∙ ap (λ (x : List ℕ). x ++ following) k) b))
specs_same (s ∷ ss) (t ∷ ts) front other rest following h k n m e =
    let b = spec_before front h.0 rest s h.1 in
    let d = spec_before other k.0 following t k.1 in
    let cut = split_same comma b.piece d.piece (h.0 ++ rest) (k.0 ++ following) b.lacks d.lacks (sym b.whole ∙ (e ∙ d.whole)) in
    let head : s ≡ t = spec_same d.piece s t (subst (λ (p : List ℕ). IsSpec p s) cut.0 b.is_spec) d.is_spec in
    let tails = specs_same ss ts h.0 k.0 rest following h.2 k.2 n m cut.1 in
    let specs : ss ≡ ts = tails.0 in
    let more : h.0 ≡ k.0 = tails.1 in
    (cc, h.1.whole ∙ (ap (λ (p : List ℕ). p ++ comma ∷ h.0) cut.0 ∙ (ap (λ (r : List ℕ). k.1.piece ++ comma ∷ r) more ∙ sym k.1.whole)), tails.2)

no_empty_list : (specs : List Spec) → SpellsSpecs (comma ∷ []) specs → ⊥
no_empty_list [] h = cc
no_empty_list (s ∷ ss) h =
    let is = h.1.is_spec in
    let cut = split_same comma [] h.1.piece [] h.0 (All-nil (λ x. x ≢ comma)) h.1.lacks h.1.whole in
    omega (arith, ap length (cut.0 ∙ is.whole), length-append s.name is.after, length-varname s.name is.is_name.0)

list_no_fault : (list other : List ℕ) (ss : List Spec) (k : TemplateErrorKind) (d : ℕ) → list ≡ other → SpellsSpecs (list ++ comma ∷ []) ss
    → IsListFault other k d → ⊥
list_no_fault list other ss k d e h f =
    let text : (list ++ comma ∷ []) ++ [] ≡ f.front ++ (f.piece ++ comma ∷ f.after) = grind (arith, common_steps) in
    no_cut f.piece f.after (specs_same ss f.specs (list ++ comma ∷ []) f.front [] (f.piece ++ comma ∷ f.after) h f.spelled nothing_no_spec
    (fault_no_spec (f.piece ++ comma ∷ f.after) f.piece f.after k f.distance refl f.lacks f.fault) text).2

list_one_fault : (list other : List ℕ) (k l : TemplateErrorKind) (d e : ℕ) → list ≡ other → IsListFault list k d → IsListFault other l e → (k ≡ l) × (d ≡ e)
list_one_fault list other k l d e same f g =
    let commas : f.front ++ (f.piece ++ comma ∷ f.after) ≡ g.front ++ (g.piece ++ comma ∷ g.after) = grind (arith, common_steps) in
    let none = fault_no_spec (f.piece ++ comma ∷ f.after) f.piece f.after k f.distance refl f.lacks f.fault in
    let no_other = fault_no_spec (g.piece ++ comma ∷ g.after) g.piece g.after l g.distance refl g.lacks g.fault in
    let fronts = specs_same f.specs g.specs f.front g.front (f.piece ++ comma ∷ f.after) (g.piece ++ comma ∷ g.after) f.spelled g.spelled none no_other
    commas in
    let pieces = split_same comma f.piece g.piece f.after g.after f.lacks g.lacks fronts.2 in
    let faults = spec_one_fault g.piece k l f.distance g.distance (subst (λ (t : List ℕ). IsSpecFault t k f.distance) pieces.0 f.fault) g.fault in
    let front : length f.front ≡ length g.front = ap length fronts.1 in
    let distance : f.distance ≡ g.distance = faults.1 in
    (faults.0, omega (arith, f.place, g.place, front, distance))

-- ---- bodies

pub body_same : (body : List ℕ) (o p : Op) (ss ts : List Spec) → IsBody body o ss → IsBody body p ts → (o ≡ p) × (ss ≡ ts)
body_same body o p ss ts h k = grind (arith, specs_same, nothing_no_spec)

pub no_empty_body : (body : List ℕ) (o : Op) (ss : List Spec) → body ≡ [] → IsBody body o ss → ⊥
no_empty_body body o ss e h = grind (arith, no_empty_list)

pub body_no_fault : (body : List ℕ) (o : Op) (ss : List Spec) (k : TemplateErrorKind) (d : ℕ) → IsBody body o ss → IsBodyFault body k d → ⊥
body_no_fault body o ss k d h (reserved_operator b t) = both_ways (begins_with_reserved body) h.1.not_reserved t
body_no_fault body o ss k d h (bad_list b p list l e is f) = list_no_fault h.0 list ss k e (operator_same body o p h.0 list h.1 is).1 h.2 f

pub body_one_fault : (body : List ℕ) (k l : TemplateErrorKind) (d e : ℕ) → IsBodyFault body k d → IsBodyFault body l e → (k ≡ l) × (d ≡ e)
body_one_fault body k l d e (reserved_operator b t) (reserved_operator c u) = (refl, refl)
body_one_fault body k l d e (reserved_operator b t) (bad_list c p list k' d' is f) = absurd (both_ways (begins_with_reserved body) is.not_reserved t)
body_one_fault body k l d e (bad_list c p list k' d' is f) (reserved_operator b t) = absurd (both_ways (begins_with_reserved body) is.not_reserved t)
body_one_fault body k l d e (bad_list c o list k' d' is f) (bad_list b p other l' e' are g) =
    let ops = operator_same body o p list other is are in
    let faults = list_one_fault list other k l d' e' ops.1 f g in
    let first : length (operator_text o) ≡ length (operator_text p) = ap (λ (q : Op). length (operator_text q)) ops.0 in
    let third : d' ≡ e' = faults.1 in
    (faults.0, omega (arith, first, third))
