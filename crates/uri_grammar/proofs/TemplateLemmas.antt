-- Parts one after another: what the reader needs to know of expressions, parts and their errors.
use Rattle.std.proofs.Common.{◌≡◌, ℕ, ◌+◌, ◌<◌, ◌≤◌, ⊎_elim, inl, inr, List, [], ◌∷◌, ◌++◌, length, get_or, drop, take, refl, ap, ◌∙◌, sym, subst, arith}
use Rattle.std.proofs.lemmas.Grind.{common_steps}
use Rattle.std.proofs.Common.{append_assoc, append-nil, take-append-drop, true, false, ◌==◌, encode_utf8_all}
use Rattle.std.proofs.Math.Seq.{take-add, take-append-add}
use Rattle.std.proofs.lemmas.Bool.{eqb-true, eq-eqb, both_ways}
use Rattle.std.proofs.lemmas.List.{length-take-le}
use Rattle.text_model.specs.Texts.{Text}
use Rattle.text_model.specs.Writing.{written_ur}
use Rattle.uri_grammar.specs.Characters.{open_brace, close_brace}
use Rattle.uri_grammar.specs.declared.error.TemplateError.{TemplateError}
use Rattle.uri_grammar.specs.declared.error.TemplateErrorKind.{TemplateErrorKind}
use Rattle.uri_grammar.specs.declared.error.TemplateErrorKind.TheVariants as kind
use Rattle.uri_grammar.specs.declared.parts.Op.{Op}
use Rattle.uri_grammar.specs.declared.parts.Part.{Part}
use Rattle.uri_grammar.specs.declared.parts.Part.TheVariants.{Literal, Expression}
use Rattle.uri_grammar.specs.declared.parts.Spec.{Spec}
use Rattle.uri_grammar.specs.Literals.{AreLiterals}
use Rattle.uri_grammar.specs.Private.Lengths.{literal_item_len}
use Rattle.uri_grammar.specs.Specs.{Lacks}
use Rattle.uri_grammar.specs.Expressions.{IsBody}
use Rattle.uri_grammar.specs.Templates.{BeginsWithLiterals, BeginsWithExpression, Spells}
use Rattle.uri_grammar.specs.Faults.{IsBodyFault, IsPartFault, bad_literal, unclosed, empty_expression, bad_expression, IsFirstFault}
use Rattle.uri_grammar.specs.Private.Reading.{IsFault, begins_with_brace, IsExpression, EndsWithNoLiteral}
use Rattle.uri_grammar.specs.Private.Moved.{moved, moved_place}
use Rattle.uri_grammar.proofs.LiteralLemmas.{no_length-literal}
use Rattle.uri_grammar.proofs.ExpressionLemmas.{body_moves}

-- ---- parts

-- further text after the rest does not change the first part
abbrev pub literals_before : (front : List ℕ) (text : Text) (rest more : List ℕ) → BeginsWithLiterals front text rest
    → BeginsWithLiterals (front ++ more) text (rest ++ more)
literals_before front text rest more h = record {
  raw = h.raw;
  whole = ap (λ (x : List ℕ). x ++ more) h.whole ∙ append_assoc h.raw rest more;
  some = h.some;
  are_literals = h.are_literals;
  is_written = h.is_written;
}

abbrev pub expression_before : (front : List ℕ) (op : Op) (specs : List Spec) (rest more : List ℕ) → BeginsWithExpression front op specs rest
    → BeginsWithExpression (front ++ more) op specs (rest ++ more)
expression_before front op specs rest more h = record {
  body = h.body;
  whole = ap (λ (x : List ℕ). x ++ more) h.whole ∙ ap (λ (x : List ℕ). open_brace ∷ x) (append_assoc h.body (close_brace ∷ rest) more);
  lacks = h.lacks;
  is_body = h.is_body;
}

pub Spells-literal : (front raw : List ℕ) (parts : List Part) → Spells front parts → EndsWithNoLiteral parts → 0 < length raw → AreLiterals raw
    → Spells (front ++ raw) (parts ++ Literal (written_ur (encode_utf8_all raw)) ∷ [])
Spells-literal front raw [] s e l h =
    ([], record { raw = raw; whole = ap (λ x. x ++ raw) s ∙ sym (append-nil raw); some = l; are_literals = h; is_written = refl }, tt, refl)
Spells-literal front raw (Literal w ∷ []) s e l h = absurd e
Spells-literal front raw (Literal w ∷ (Literal v ∷ parts)) s e l h = absurd s.2
Spells-literal front raw (Literal w ∷ (Expression op specs ∷ parts)) s e l h =
    (s.0 ++ raw, literals_before front w s.0 raw s.1, tt, Spells-literal s.0 raw (Expression op specs ∷ parts) s.3 e l h)
Spells-literal front raw (Expression op specs ∷ []) s e l h =
    (s.0 ++ raw, expression_before front op specs s.0 raw s.1, Spells-literal s.0 raw [] s.2 tt l h)
Spells-literal front raw (Expression op specs ∷ (p ∷ parts)) s e l h =
    (s.0 ++ raw, expression_before front op specs s.0 raw s.1, Spells-literal s.0 raw (p ∷ parts) s.2 e l h)

pub Spells-expression : (front cs : List ℕ) (parts : List Part) (part : Part) → Spells front parts → IsExpression cs part
    → Spells (front ++ cs) (parts ++ part ∷ [])
Spells-expression front cs [] (Literal w) s h = absurd h
Spells-expression front cs [] (Expression op specs) s h = ([], subst (λ (x : List ℕ). BeginsWithExpression (x ++ cs) op specs []) (sym s) h, refl)
Spells-expression front cs (Literal w ∷ []) (Literal v) s h = absurd h
Spells-expression front cs (Literal w ∷ []) (Expression op specs) s h =
    (s.0 ++ cs, literals_before front w s.0 cs s.1, tt, Spells-expression s.0 cs [] (Expression op specs) s.3 h)
Spells-expression front cs (Literal w ∷ (Literal v ∷ parts)) part s h = absurd s.2
Spells-expression front cs (Literal w ∷ (Expression op specs ∷ parts)) part s h =
    (s.0 ++ cs, literals_before front w s.0 cs s.1, tt, Spells-expression s.0 cs (Expression op specs ∷ parts) part s.3 h)
Spells-expression front cs (Expression op specs ∷ parts) part s h =
    (s.0 ++ cs, expression_before front op specs s.0 cs s.1, Spells-expression s.0 cs parts part s.2 h)

EndsWithNoLiteral-second : (p part : Part) → EndsWithNoLiteral (part ∷ []) → EndsWithNoLiteral (p ∷ part ∷ [])
EndsWithNoLiteral-second p part h = grind (arith, common_steps)

EndsWithNoLiteral-skip : (p q : Part) (parts : List Part) → EndsWithNoLiteral (q ∷ parts) → EndsWithNoLiteral (p ∷ q ∷ parts)
EndsWithNoLiteral-skip p q parts h = grind (arith, common_steps)

pub EndsWithNoLiteral-expression : (parts : List Part) (part : Part) (cs : List ℕ) → IsExpression cs part → EndsWithNoLiteral (parts ++ part ∷ [])
EndsWithNoLiteral-expression [] (Literal w) cs h = absurd h
EndsWithNoLiteral-expression [] (Expression op specs) cs h = tt
EndsWithNoLiteral-expression (p ∷ []) part cs h = EndsWithNoLiteral-second p part (EndsWithNoLiteral-expression [] part cs h)
EndsWithNoLiteral-expression (p ∷ (q ∷ parts)) part cs h = EndsWithNoLiteral-skip p q (parts ++ part ∷ []) (EndsWithNoLiteral-expression (q ∷ parts) part cs h)

-- ---- expressions

length-take_within : (n : ℕ) (xs : List ℕ) → n < length xs → length (take n xs) ≡ n
length-take_within n xs l = length-take-le n xs (omega arith)

-- the text up to the brace at a place, and what follows it
braced : (cs inner : List ℕ) (end : ℕ) → begins_with_brace cs ≡ true → inner ≡ drop 1 cs → end < length inner → get_or inner end 0 ≡ close_brace
    → cs ≡ open_brace ∷ take end inner ++ close_brace ∷ drop (end + 1) inner
braced cs inner end b e l h = grind (arith, common_steps)

pub IsExpression-braced : (cs inner : List ℕ) (end : ℕ) (op : Op) (specs : List Spec) → begins_with_brace cs ≡ true → inner ≡ drop 1 cs → end < length inner
    → get_or inner end 0 ≡ close_brace → Lacks close_brace (take end inner) → IsBody (take end inner) op specs
    → IsExpression (take (end + 2) cs) (Expression op specs)
IsExpression-braced cs inner end op specs b e l h lacks ok =
    let whole = braced cs inner end b e l h in
    let size : length (take end inner) ≡ end = length-take_within end inner l in
    record { body = take end inner; whole = front cs (take end inner) (drop (end + 1) inner) end size whole; lacks = lacks; is_body = ok }
  where
    front : (cs body rest : List ℕ) (end : ℕ) → length body ≡ end → cs ≡ open_brace ∷ body ++ close_brace ∷ rest
        → take (end + 2) cs ≡ open_brace ∷ body ++ close_brace ∷ []
    front cs body rest end size whole = grind (arith, take-append-add)

-- ---- one step of reading

pub Spells-more_literal : (cs raw : List ℕ) (done len : ℕ) (parts parts' : List Part) → raw ≡ take len (drop done cs) → len ≤ length (drop done cs) → 0 < len
    → AreLiterals (take len (drop done cs)) → parts' ≡ parts ++ Literal (written_ur (encode_utf8_all raw)) ∷ [] → EndsWithNoLiteral parts
    → Spells (take done cs) parts → Spells (take (done + len) cs) parts'
Spells-more_literal cs raw done len parts parts' r w l a e n s =
    let some : 0 < length (take len (drop done cs)) = omega (arith, length-take-le len (drop done cs) w) in
    rw (take-add, e, r) (Spells-literal (take done cs) (take len (drop done cs)) parts s n some a)

pub Spells-more_expression : (cs : List ℕ) (done len : ℕ) (part : Part) (parts parts' : List Part) → IsExpression (take len (drop done cs)) part
    → parts' ≡ parts ++ part ∷ [] → Spells (take done cs) parts → Spells (take (done + len) cs) parts'
Spells-more_expression cs done len part parts parts' h e s =
    rw (take-add, e) (Spells-expression (take done cs) (take len (drop done cs)) parts part s h)

-- ---- errors

part_moves : (cs : List ℕ) (k : TemplateErrorKind) (d at n : ℕ) → IsPartFault cs k d → moved_place k at n ≡ at + n
part_moves cs k d at n h = grind (arith, body_moves)

pub IsPartFault-body : (cs inner : List ℕ) (end : ℕ) (e : TemplateError) → begins_with_brace cs ≡ true → inner ≡ drop 1 cs → end < length inner → 0 < end
    → get_or inner end 0 ≡ close_brace → Lacks close_brace (take end inner) → IsFault e (IsBodyFault (take end inner)) → IsFault (moved e 1) (IsPartFault cs)
IsPartFault-body cs inner end e b is l pos h lacks f =
    ⊎_elim
    (λ m. inl (ap (λ (x : TemplateError). moved x 1) m))
    (λ g.
    let whole = braced cs inner end b is l h in
    let some : 0 < length (take end inner) = omega (arith, length-take_within end inner l, pos) in
    let place : 1 + e.at ≡ moved_place e.kind e.at 1 = omega (arith, body_moves (take end inner) e.kind e.at e.at 1 g) in
    inr (subst (λ (t : List ℕ). IsPartFault t e.kind (moved_place e.kind e.at 1)) (sym whole)
    (subst (λ (n : ℕ). IsPartFault (open_brace ∷ take end inner ++ close_brace ∷ drop (end + 1) inner) e.kind n) place
    (bad_expression (take end inner) (drop (end + 1) inner) e.kind e.at some lacks g))))
    f

pub brace_after : (cs : List ℕ) → begins_with_brace cs ≡ true → cs ≡ open_brace ∷ drop 1 cs
brace_after [] b = cc
brace_after (c ∷ cs) b = ap (λ (x : ℕ). x ∷ cs) (eqb-true c open_brace b)

pub IsPartFault-literal : (cs : List ℕ) → 0 < length cs → literal_item_len cs ≡ 0 → begins_with_brace cs ≡ false → IsPartFault cs kind.BadLiteral 0
IsPartFault-literal [] l z b = absurd (omega arith)
IsPartFault-literal (c ∷ cs) l z b = bad_literal c cs (no_length-literal (c ∷ cs) z) (λ e. both_ways (c == open_brace) b (eq-eqb c open_brace e))

pub IsPartFault-unclosed : (cs inner : List ℕ) → begins_with_brace cs ≡ true → inner ≡ drop 1 cs → Lacks close_brace inner → IsPartFault cs kind.Unclosed 0
IsPartFault-unclosed cs inner b is l =
    subst (λ (t : List ℕ). IsPartFault t kind.Unclosed 0) (sym (brace_after cs b ∙ ap (λ (t : List ℕ). open_brace ∷ t) (sym is))) (unclosed inner l)

pub IsPartFault-empty : (cs inner : List ℕ) (end : ℕ) → begins_with_brace cs ≡ true → inner ≡ drop 1 cs → end < length inner → get_or inner end 0 ≡ close_brace
    → end ≡ 0 → IsPartFault cs kind.EmptyExpression 0
IsPartFault-empty cs inner end b is l h z =
    let whole = braced cs inner end b is l h in
    let nil : take end inner ≡ [] = ap (λ (n : ℕ). take n inner) z in
    subst (λ (t : List ℕ). IsPartFault t kind.EmptyExpression 0) (sym (whole ∙ ap (λ (t : List ℕ). open_brace ∷ t ++ close_brace ∷ drop (end + 1) inner) nil))
    (empty_expression (drop (end + 1) inner))

-- an error after what was read is the first error of the text
pub IsFirstFault-after : (cs : List ℕ) (done : ℕ) (parts : List Part) (e : TemplateError) → Spells (take done cs) parts
    → IsFault e (IsPartFault (drop done cs)) → IsFault (moved e (length (encode_utf8_all (take done cs)))) (IsFirstFault cs)
IsFirstFault-after cs done parts e s f =
    ⊎_elim
    (λ m. inl (ap (λ (x : TemplateError). moved x (length (encode_utf8_all (take done cs)))) m))
    (λ g.
    let place : moved_place e.kind e.at (length (encode_utf8_all (take done cs))) ≡ length (encode_utf8_all (take done cs)) + e.at =
    part_moves (drop done cs) e.kind e.at e.at (length (encode_utf8_all (take done cs))) g ∙ omega arith in
    inr (record {
      front = take done cs;
      parts = parts;
      rest = drop done cs;
      distance = e.at;
      whole = sym (take-append-drop done cs);
      spelled = s;
      fault = g;
      place = place;
    }))
    f
