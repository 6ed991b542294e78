-- Texts that no part begins with.

use Rattle.std.proofs.Common.{◌≡◌, ◌≢◌, ℕ, ◌+◌, ◌<◌, ◌≤◌, ⊎_elim, List, [], ◌∷◌, ◌++◌, length, refl, ap, ◌∙◌, sym, subst, arith, append-nil}
use Rattle.std.proofs.lemmas.Str.{encodes_same}
use Rattle.std.proofs.lemmas.List.Elements.{All-nil}
use Rattle.std.proofs.lemmas.Grind.{common_steps}
use Rattle.text_model.specs.Texts.{Text}
use Rattle.uri_grammar.specs.Characters.{open_brace, close_brace}
use Rattle.uri_grammar.specs.declared.error.TemplateErrorKind.{TemplateErrorKind}
use Rattle.uri_grammar.specs.declared.parts.Op.{Op}
use Rattle.uri_grammar.specs.declared.parts.Part.{Part}
use Rattle.uri_grammar.specs.declared.parts.Part.TheVariants.{Literal, Expression}
use Rattle.uri_grammar.specs.declared.parts.Spec.{Spec}
use Rattle.uri_grammar.specs.Private.Lengths.{literal_item_len}
use Rattle.uri_grammar.specs.declared.template.TheConstants.{MAX_BYTES}
use Rattle.uri_grammar.specs.Expressions.{IsBody}
use Rattle.uri_grammar.specs.Templates.{BeginsNoLiteral, BeginsWithLiterals, BeginsWithExpression, Spells}
use Rattle.uri_grammar.specs.Faults.{IsBodyFault, IsPartFault, bad_literal, unclosed, empty_expression, bad_expression, IsFirstFault}
use Rattle.uri_grammar.specs.Texts.{IsTemplate, IsRefusedTemplate}
use Rattle.uri_grammar.proofs.RunLemmas.{item-Run, run_same, split_same, lacks_split}
use Rattle.uri_grammar.proofs.LiteralLemmas.{AreLiterals-run, no_literal-length, literal_item_len-brace}
use Rattle.uri_grammar.proofs.TemplateLemmas.{literals_before, expression_before}
use Rattle.uri_grammar.proofs.LawLemmas.{body_no_fault, body_one_fault, body_same, no_empty_body}

record NoPart (cs : List ℕ) : Type 0 where
  pub no_literal : literal_item_len cs ≡ 0
  pub no_expression : (rest : List ℕ) (o : Op) (specs : List Spec) → BeginsWithExpression cs o specs rest → ⊥

no_brace : (body rest : List ℕ) → [] ≡ open_brace ∷ body ++ close_brace ∷ rest → ⊥
no_brace body rest e = cc

nothing_no_part : NoPart []
nothing_no_part = record { no_literal = refl; no_expression = λ rest o specs h. no_brace h.body rest h.whole }

first_same : (x y : ℕ) (xs ys : List ℕ) → x ∷ xs ≡ y ∷ ys → x ≡ y
first_same x y xs ys e = cc

after_brace : (xs ys : List ℕ) → open_brace ∷ xs ≡ open_brace ∷ ys → xs ≡ ys
after_brace xs ys e = cc

fault_no_part : (cs : List ℕ) (k : TemplateErrorKind) (d : ℕ) → IsPartFault cs k d → NoPart cs
fault_no_part cs k d (bad_literal c xs l b) = record {
  no_literal = no_literal-length (c ∷ xs) l;
  no_expression = λ rest o specs h. b (first_same c open_brace xs (h.body ++ close_brace ∷ rest) h.whole);
}
fault_no_part cs k d (unclosed xs lack) = record {
  no_literal = literal_item_len-brace xs;
  no_expression = λ rest o specs h. lacks_split close_brace xs h.body rest lack (after_brace xs (h.body ++ close_brace ∷ rest) h.whole);
}
fault_no_part cs k d (empty_expression more) = record {
  no_literal = literal_item_len-brace (close_brace ∷ more);
  no_expression = λ rest o specs h. no_empty_body h.body o specs
      (sym (split_same close_brace [] h.body more rest (All-nil (λ x. x ≢ close_brace)) h.lacks
      (after_brace (close_brace ∷ more) (h.body ++ close_brace ∷ rest) h.whole)).0) h.is_body;
}
fault_no_part cs k d (bad_expression xs more k' d' l lack f) = record {
  no_literal = literal_item_len-brace (xs ++ close_brace ∷ more);
  no_expression = λ rest o specs h. body_no_fault h.body o specs k d' h.is_body
      (subst (λ (t : List ℕ). IsBodyFault t k d')
      (split_same close_brace xs h.body more rest lack h.lacks (after_brace (xs ++ close_brace ∷ more) (h.body ++ close_brace ∷ rest) h.whole)).0 f);
}

length-fault : (cs : List ℕ) (k : TemplateErrorKind) (d : ℕ) → IsPartFault cs k d → 0 < length cs
length-fault cs k d h = grind (arith, common_steps)

not_nothing : (xs : List ℕ) → 0 < length xs → [] ≡ xs → ⊥
not_nothing xs l e = omega (arith, ap length e)

part_one_fault : (cs ds : List ℕ) (k l : TemplateErrorKind) (d e : ℕ) → cs ≡ ds → IsPartFault cs k d → IsPartFault ds l e → (k ≡ l) × (d ≡ e)
part_one_fault cs ds k l d e w (bad_literal c xs p b) (bad_literal c' ys q b') = (refl, refl)
part_one_fault cs ds k l d e w (bad_literal c xs p b) (unclosed ys lack) = absurd (b (first_same c open_brace xs ys w))
part_one_fault cs ds k l d e w (bad_literal c xs p b) (empty_expression more) = absurd (b (first_same c open_brace xs (close_brace ∷ more) w))
part_one_fault cs ds k l d e w (bad_literal c xs p b) (bad_expression ys more l' e' q lack g) =
    absurd (b (first_same c open_brace xs (ys ++ close_brace ∷ more) w))
part_one_fault cs ds k l d e w (unclosed xs lack) (bad_literal c ys p b) = absurd (b (first_same c open_brace ys xs (sym w)))
part_one_fault cs ds k l d e w (unclosed xs lack) (unclosed ys other) = (refl, refl)
part_one_fault cs ds k l d e w (unclosed xs lack) (empty_expression more) =
    absurd (lacks_split close_brace xs [] more lack (after_brace xs (close_brace ∷ more) w))
part_one_fault cs ds k l d e w (unclosed xs lack) (bad_expression ys more l' e' q other g) =
    absurd (lacks_split close_brace xs ys more lack (after_brace xs (ys ++ close_brace ∷ more) w))
part_one_fault cs ds k l d e w (empty_expression more) (bad_literal c ys p b) = absurd (b (first_same c open_brace ys (close_brace ∷ more) (sym w)))
part_one_fault cs ds k l d e w (empty_expression more) (unclosed ys other) =
    absurd (lacks_split close_brace ys [] more other (after_brace ys (close_brace ∷ more) (sym w)))
part_one_fault cs ds k l d e w (empty_expression more) (empty_expression rest) = (refl, refl)
part_one_fault cs ds k l d e w (empty_expression more) (bad_expression ys rest l' e' q other g) =
    absurd (not_nothing ys q
    (split_same close_brace [] ys more rest (All-nil (λ x. x ≢ close_brace)) other (after_brace (close_brace ∷ more) (ys ++ close_brace ∷ rest) w)).0)
part_one_fault cs ds k l d e w (bad_expression xs more k' d' p lack f) (bad_literal c ys q b) =
    absurd (b (first_same c open_brace ys (xs ++ close_brace ∷ more) (sym w)))
part_one_fault cs ds k l d e w (bad_expression xs more k' d' p lack f) (unclosed ys other) =
    absurd (lacks_split close_brace ys xs more other (after_brace ys (xs ++ close_brace ∷ more) (sym w)))
part_one_fault cs ds k l d e w (bad_expression xs more k' d' p lack f) (empty_expression rest) =
    absurd (not_nothing xs p
    (split_same close_brace [] xs rest more (All-nil (λ x. x ≢ close_brace)) lack (after_brace (close_brace ∷ rest) (xs ++ close_brace ∷ more) (sym w))).0)
part_one_fault cs ds k l d e w (bad_expression xs more k' d' p lack f) (bad_expression ys rest l' e' q other g) =
    let cut = split_same close_brace xs ys more rest lack other (after_brace (xs ++ close_brace ∷ more) (ys ++ close_brace ∷ rest) w) in
    let faults = body_one_fault ys k l d' e' (subst (λ (t : List ℕ). IsBodyFault t k d') cut.0 f) g in
    (faults.0, ap (λ (n : ℕ). 1 + n) faults.1)

-- ---- parts

spelled_front : (ps : List Part) (front rest : List ℕ) → Spells front ps → BeginsNoLiteral ps → NoPart rest → literal_item_len (front ++ rest) ≡ 0
spelled_front [] front rest s b k = ap (λ (t : List ℕ). literal_item_len (t ++ rest)) s ∙ k.no_literal
spelled_front (Literal w ∷ ps) front rest s b k = absurd b
spelled_front (Expression o specs ∷ ps) front rest s b k =
    ap (λ (t : List ℕ). literal_item_len (t ++ rest)) s.1.whole ∙ literal_item_len-brace ((s.1.body ++ close_brace ∷ s.0) ++ rest)

no_literal_here : (cs : List ℕ) (w : Text) (rest : List ℕ) → BeginsWithLiterals cs w rest → literal_item_len cs ≡ 0 → ⊥
no_literal_here cs w rest h z =
    omega (arith, ap literal_item_len h.whole, z, item-Run literal_item_len h.raw rest (AreLiterals-run h.raw h.are_literals) h.some)

no_literal_at_brace : (cs : List ℕ) (o : Op) (specs : List Spec) (rest : List ℕ) → BeginsWithExpression cs o specs rest → literal_item_len cs ≡ 0
no_literal_at_brace cs o specs rest h = ap literal_item_len h.whole ∙ literal_item_len-brace (h.body ++ close_brace ∷ rest)

-- parts, and then a text that no part begins, in only one way
spelled_same : (ps qs : List Part) (front other rest following : List ℕ) → Spells front ps → Spells other qs → NoPart rest → NoPart following
    → front ++ rest ≡ other ++ following → (ps ≡ qs) × (front ≡ other) × (rest ≡ following)
spelled_same [] [] front other rest following s t k m e =
    (refl, s ∙ sym t, ap (λ (x : List ℕ). x ++ rest) (sym s) ∙ (e ∙ ap (λ (x : List ℕ). x ++ following) t))
spelled_same [] (Literal w ∷ qs) front other rest following s t k m e =
    absurd (no_literal_here (other ++ following) w (t.0 ++ following) (literals_before other w t.0 following t.1)
    (ap literal_item_len (sym e ∙ ap (λ (x : List ℕ). x ++ rest) s) ∙ k.no_literal))
spelled_same [] (Expression o specs ∷ qs) front other rest following s t k m e =
    absurd (k.no_expression (t.0 ++ following) o specs
    (subst (λ (x : List ℕ). BeginsWithExpression x o specs (t.0 ++ following)) (sym e ∙ ap (λ (x : List ℕ). x ++ rest) s)
    (expression_before other o specs t.0 following t.1)))
spelled_same (Literal w ∷ ps) [] front other rest following s t k m e =
    absurd (no_literal_here (front ++ rest) w (s.0 ++ rest) (literals_before front w s.0 rest s.1)
    (ap literal_item_len (e ∙ ap (λ (x : List ℕ). x ++ following) t) ∙ m.no_literal))
spelled_same (Expression o specs ∷ ps) [] front other rest following s t k m e =
    absurd (m.no_expression (s.0 ++ rest) o specs
    (subst (λ (x : List ℕ). BeginsWithExpression x o specs (s.0 ++ rest)) (e ∙ ap (λ (x : List ℕ). x ++ following) t)
    (expression_before front o specs s.0 rest s.1)))
spelled_same (Literal w ∷ ps) (Literal v ∷ qs) front other rest following s t k m e =
    let b = literals_before front w s.0 rest s.1 in
    let d = literals_before other v t.0 following t.1 in
    let heads = run_same literal_item_len b.raw d.raw (s.0 ++ rest) (t.0 ++ following) (AreLiterals-run b.raw b.are_literals)
    (AreLiterals-run d.raw d.are_literals) (sym b.whole ∙ (e ∙ d.whole)) (spelled_front ps s.0 rest s.3 s.2 k) (spelled_front qs t.0 following t.3 t.2 m) in
    let tails = spelled_same ps qs s.0 t.0 rest following s.3 t.3 k m heads.1 in
    (cc, s.1.whole ∙ (ap (λ (x : List ℕ). x ++ s.0) heads.0 ∙ (ap (λ (x : List ℕ). t.1.raw ++ x) tails.1 ∙ sym t.1.whole)), tails.2)
spelled_same (Literal w ∷ ps) (Expression o specs ∷ qs) front other rest following s t k m e =
    absurd (no_literal_here (front ++ rest) w (s.0 ++ rest) (literals_before front w s.0 rest s.1)
    (ap literal_item_len e ∙ no_literal_at_brace (other ++ following) o specs (t.0 ++ following) (expression_before other o specs t.0 following t.1)))
spelled_same (Expression o specs ∷ ps) (Literal w ∷ qs) front other rest following s t k m e =
    absurd (no_literal_here (other ++ following) w (t.0 ++ following) (literals_before other w t.0 following t.1)
    (ap literal_item_len (sym e) ∙ no_literal_at_brace (front ++ rest) o specs (s.0 ++ rest) (expression_before front o specs s.0 rest s.1)))
spelled_same (Expression o specs ∷ ps) (Expression p others ∷ qs) front other rest following s t k m e =
    let b = expression_before front o specs s.0 rest s.1 in
    let d = expression_before other p others t.0 following t.1 in
    let cut = split_same close_brace b.body d.body (s.0 ++ rest) (t.0 ++ following) b.lacks d.lacks
    (after_brace (b.body ++ close_brace ∷ (s.0 ++ rest)) (d.body ++ close_brace ∷ (t.0 ++ following)) (sym b.whole ∙ (e ∙ d.whole))) in
    let bodies = body_same d.body o p specs others (subst (λ (x : List ℕ). IsBody x o specs) cut.0 b.is_body) d.is_body in
    let tails = spelled_same ps qs s.0 t.0 rest following s.2 t.2 k m cut.1 in
    let parts : ps ≡ qs = tails.0 in (
      cc,
      s.1.whole ∙ (ap (λ (x : List ℕ). open_brace ∷ x ++ close_brace ∷ s.0) cut.0
          ∙ (ap (λ (x : List ℕ). open_brace ∷ t.1.body ++ close_brace ∷ x) tails.1 ∙ sym t.1.whole)),
      tails.2,
    )

-- ---- texts

pub one_tree : (text : Text) (parts others : List Part) → IsTemplate text parts → IsTemplate text others → parts ≡ others
one_tree text parts others h k =
    let same : h.1 ≡ k.1 = encodes_same h.1 k.1 (sym h.2 ∙ k.2) in
    (spelled_same parts others h.1 k.1 [] [] h.3 k.3 nothing_no_part nothing_no_part (ap (λ (t : List ℕ). t ++ []) same)).0

pub tree_without_fault : (text : Text) (parts : List Part) (kind : TemplateErrorKind) (at : ℕ) → IsTemplate text parts → IsRefusedTemplate text kind at → ⊥
tree_without_fault text parts kind at h r =
    let short : length text ≤ MAX_BYTES = h.0 in
    ⊎_elim
    (λ t. let long : MAX_BYTES < length text = t.0 in omega (arith, long, short))
    (λ f.
    let same : h.1 ≡ f.1 = encodes_same h.1 f.1 (sym h.2 ∙ f.2) in
    let g = f.3 in
    let ends = spelled_same parts g.parts h.1 g.front [] g.rest h.3 g.spelled nothing_no_part (fault_no_part g.rest kind g.distance g.fault)
    (append-nil h.1 ∙ (same ∙ g.whole)) in
    not_nothing g.rest (length-fault g.rest kind g.distance g.fault) ends.2)
    r

pub one_first_fault : (text : Text) (kind other : TemplateErrorKind) (at place : ℕ) → IsRefusedTemplate text kind at → IsRefusedTemplate text other place
    → (kind ≡ other) × (at ≡ place)
one_first_fault text kind other at place r q =
    ⊎_elim
    (λ t.
    let long : MAX_BYTES < length text = t.0 in
    ⊎_elim
    (λ u. (t.1 ∙ sym u.1, t.2 ∙ sym u.2))
    (λ g. let short : length text ≤ MAX_BYTES = g.0 in absurd (omega (arith, long, short)))
    q)
    (λ f.
    let short : length text ≤ MAX_BYTES = f.0 in
    ⊎_elim
    (λ u. let long : MAX_BYTES < length text = u.0 in absurd (omega (arith, long, short)))
    (λ g. both f.1 g.1 (encodes_same f.1 g.1 (sym f.2 ∙ g.2)) f.3 g.3)
    q)
    r
  where
    both : (cs ds : List ℕ) → cs ≡ ds → IsFirstFault cs kind at → IsFirstFault ds other place → (kind ≡ other) × (at ≡ place)
    both cs ds same f g = grind (arith, spelled_same, fault_no_part, part_one_fault)
