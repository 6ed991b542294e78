-- Any text is that of an expression or has a first error, and so is any text that of a template or has one.

use Rattle.std.proofs.Common.{◌≡◌, ℕ, zero, suc, ◌+◌, ◌-◌, ◌<◌, ◌≤◌, ◌⊎◌, ⊎_elim, inl, inr, List, [], ◌∷◌, ◌++◌, length, drop, refl, ap, ◌∙◌, sym, subst, arith}
use Rattle.std.proofs.Common.{append_assoc, append-nil, length-append, encode_utf8_all}
use Rattle.std.specs.Str.{IsUtf8, chars}
use Rattle.std.proofs.lemmas.Str.{encodes-chars}
use Rattle.std.proofs.lemmas.Bool.{cases_Bool}
use Rattle.std.proofs.lemmas.Grind.{common_steps}
use Rattle.text_model.specs.Texts.{Text}
use Rattle.text_model.specs.Writing.{written_ur}
use Rattle.uri_grammar.specs.Characters.{open_brace, close_brace}
use Rattle.uri_grammar.specs.declared.error.TemplateErrorKind.{TemplateErrorKind}
use Rattle.uri_grammar.specs.declared.error.TemplateErrorKind.TheVariants as kind
use Rattle.uri_grammar.specs.declared.parts.Op.{Op}
use Rattle.uri_grammar.specs.declared.parts.Part.{Part}
use Rattle.uri_grammar.specs.declared.parts.Part.TheVariants.{Literal, Expression}
use Rattle.uri_grammar.specs.declared.parts.Spec.{Spec}
use Rattle.uri_grammar.specs.declared.template.TheConstants.{MAX_BYTES}
use Rattle.uri_grammar.specs.Private.Lengths.{literal_item_len}
use Rattle.uri_grammar.specs.Specs.{Lacks}
use Rattle.uri_grammar.specs.Expressions.{operator_text, begins_with_reserved, IsBody}
use Rattle.uri_grammar.specs.Templates.{Spells}
use Rattle.uri_grammar.specs.Faults.{IsBodyFault, reserved_operator, bad_list, IsPartFault, unclosed, empty_expression, bad_expression, IsFirstFault}
use Rattle.uri_grammar.specs.Texts.{IsTemplate, IsRefusedTemplate}
use Rattle.uri_grammar.specs.Private.Reading.{begins_with_brace, operator_of, IsExpression, EndsWithNoLiteral}
use Rattle.uri_grammar.proofs.ExpressionLemmas.{operator_of-HasOperator}
use Rattle.uri_grammar.proofs.TemplateLemmas.{IsPartFault-literal, Spells-literal, Spells-expression, EndsWithNoLiteral-expression, brace_after}
use Rattle.uri_grammar.proofs.ChoiceLemmas.{lacks_or_cut, longest_literals, none_or_some, specs_or_fault}

body_or_fault : (body : List ℕ) → ((o : Op) × (ss : List Spec) × IsBody body o ss) ⊎ ((k : TemplateErrorKind) × (d : ℕ) × IsBodyFault body k d)
body_or_fault body =
    ⊎_elim
    (λ t. inr (kind.ReservedOperator, 0, reserved_operator body t))
    (λ f.
    let o = operator_of body in
    let list = drop (length (operator_text o)) body in
    let has = operator_of-HasOperator body f in
    ⊎_elim
    (λ ss. inl (o, ss.0, (list, has, ss.1)))
    (λ g. inr (g.0, length (operator_text o) + g.1, bad_list body o list g.0 g.1 has g.2))
    (specs_or_fault (suc (length list)) list (omega arith)))
    (cases_Bool (begins_with_reserved body))

abbrev PartOrFault : List ℕ → Type 0
PartOrFault cs =
    ((front : List ℕ) × (rest : List ℕ) × (part : Part) × (cs ≡ front ++ rest) × (0 < length front) × IsExpression front part)
    ⊎ ((k : TemplateErrorKind) × (d : ℕ) × IsPartFault cs k d)

closed_or_fault : (cs body rest : List ℕ) → cs ≡ open_brace ∷ body ++ close_brace ∷ rest → Lacks close_brace body → PartOrFault cs
closed_or_fault cs [] rest e lacks =
    inr (kind.EmptyExpression, 0, subst (λ (t : List ℕ). IsPartFault t kind.EmptyExpression 0) (sym e) (empty_expression rest))
closed_or_fault cs (c ∷ body) rest e lacks =
    ⊎_elim
    (λ b.
    let whole = e ∙ sym (ap (λ (t : List ℕ). open_brace ∷ t) (append_assoc (c ∷ body) (close_brace ∷ []) rest)) in
    inl (
      open_brace ∷ (c ∷ body) ++ close_brace ∷ [],
      rest,
      Expression b.0 b.1,
      whole,
      omega arith,
      record { body = c ∷ body; whole = refl; lacks = lacks; is_body = b.2 },
    ))
    (λ f. inr (f.0, 1 + f.1, subst (λ (t : List ℕ). IsPartFault t f.0 (1 + f.1)) (sym e) (bad_expression (c ∷ body) rest f.0 f.1 (omega arith) lacks f.2)))
    (body_or_fault (c ∷ body))

expression_or_fault : (cs : List ℕ) → 0 < length cs → literal_item_len cs ≡ 0 → PartOrFault cs
expression_or_fault cs some z =
    ⊎_elim
    (λ t.
    let inner = drop 1 cs in
    let after_brace = brace_after cs t in
    ⊎_elim
    (λ lacks. inr (kind.Unclosed, 0, subst (λ (x : List ℕ). IsPartFault x kind.Unclosed 0) (sym after_brace) (unclosed inner lacks)))
    (λ cut. closed_or_fault cs cut.0 cut.1 (after_brace ∙ ap (λ (x : List ℕ). open_brace ∷ x) cut.2) cut.3)
    (lacks_or_cut close_brace inner))
    (λ f. inr (kind.BadLiteral, 0, IsPartFault-literal cs some z f))
    (cases_Bool (begins_with_brace cs))

-- ---- templates

abbrev PartsOrFault : List ℕ → Type 0
PartsOrFault cs = ((parts : List Part) × Spells cs parts) ⊎ ((k : TemplateErrorKind) × (at : ℕ) × IsFirstFault cs k at)

-- what was read, and what is left
parts_or_fault : (n : ℕ) (front rest : List ℕ) (parts : List Part) → length rest < n → Spells front parts
    → (0 < literal_item_len rest → EndsWithNoLiteral parts) → PartsOrFault (front ++ rest)
parts_or_fault zero front rest parts l s ends = absurd (omega arith)
parts_or_fault (suc n) front [] parts l s ends = inl (parts, subst (λ (t : List ℕ). Spells t parts) (sym (append-nil front)) s)
parts_or_fault (suc n) front (c ∷ cs) parts l s ends =
    ⊎_elim
    (λ z. ⊎_elim
    (λ p.
    let shorter : length p.1 < n = omega (arith, ap length p.3, length-append p.0 p.1, p.4, l) in
    let more = parts_or_fault n (front ++ p.0) p.1 (parts ++ p.2 ∷ []) shorter (Spells-expression front p.0 parts p.2 s p.5)
    (λ _. EndsWithNoLiteral-expression parts p.2 p.0 p.5) in
    subst PartsOrFault (append_assoc front p.0 p.1 ∙ ap (λ (t : List ℕ). front ++ t) (sym p.3)) more)
    (λ f. inr (
      f.0,
      length (encode_utf8_all front) + f.1,
      record {
        front = front;
        parts = parts;
        rest = c ∷ cs;
        distance = f.1;
        whole = refl;
        spelled = s;
        fault = f.2;
        place = refl;
      },
    ))
    (expression_or_fault (c ∷ cs) (omega arith) z))
    (λ some.
    let run = longest_literals (c ∷ cs) in
    let raw : 0 < length run.0 = started run.0 run.1 (c ∷ cs) run.2 run.4 some in
    let shorter : length run.1 < n = omega (arith, ap length run.2, length-append run.0 run.1, raw, l) in
    let more = parts_or_fault n (front ++ run.0) run.1 (parts ++ Literal (written_ur (encode_utf8_all run.0)) ∷ []) shorter
    (Spells-literal front run.0 parts s (ends some) raw run.3) (λ m. absurd (omega (arith, m, run.4))) in
    subst PartsOrFault (append_assoc front run.0 run.1 ∙ ap (λ (t : List ℕ). front ++ t) (sym run.2)) more)
    (none_or_some (literal_item_len (c ∷ cs)))
  where
    started : (raw after cs : List ℕ) → cs ≡ raw ++ after → literal_item_len after ≡ 0 → 0 < literal_item_len cs → 0 < length raw
    started raw after cs e z some = grind (arith, common_steps)

short_text_or_fault : (text : Text) → IsUtf8 text → length text ≤ MAX_BYTES → ((parts : List Part) × IsTemplate text parts)
    ⊎ ((k : TemplateErrorKind) × (at : ℕ) × IsRefusedTemplate text k at)
short_text_or_fault text utf8 l =
    let is : text ≡ encode_utf8_all (chars text) = sym (encodes-chars text utf8) in
    ⊎_elim
    (λ p. inl (p.0, (l, chars text, is, p.1)))
    (λ f. inr (f.0, f.1, inr (l, chars text, is, f.2)))
    (parts_or_fault (suc (length (chars text))) [] (chars text) [] (omega arith) refl (λ _. tt))

pub tree_or_fault : (text : Text) → IsUtf8 text
    → ((parts : List Part) × IsTemplate text parts) ⊎ ((k : TemplateErrorKind) × (at : ℕ) × IsRefusedTemplate text k at)
tree_or_fault text utf8 =
    ⊎_elim
    (λ z. short_text_or_fault text utf8 (omega (arith, z)))
    (λ long. inr (kind.TooLong, MAX_BYTES, inl (omega (arith, long), refl, refl)))
    (none_or_some (length text - MAX_BYTES))
