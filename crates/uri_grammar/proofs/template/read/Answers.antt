use Rattle.std.proofs.Common.{◌≡◌, ◌∙◌, ◌+◌, ◌<◌, ◌≤◌, ◌++◌, [], ◌∷◌, ap, take, drop, length, subst, List, ℕ, arith, encode_utf8_all, length-drop}
use Rattle.std.proofs.lemmas.Str.{length-le-encodes}
use Rattle.std.proofs.lemmas.Grind.{common_steps}
use Rattle.uri_grammar.specs.declared.parts.Part.{Part}
use Rattle.uri_grammar.specs.Literals.{AreLiterals}
use Rattle.uri_grammar.specs.Private.Lengths.{literal_item_len}
use Rattle.uri_grammar.specs.Faults.{IsPartFault}
use Rattle.uri_grammar.specs.Private.Reading.{IsExpression, IsFault}
use Rattle.uri_grammar.proofs.CharacterLemmas.{length-encodes-take, length-encodes-drop}
use Rattle.uri_grammar.proofs.TemplateLemmas.{Spells-more_literal, Spells-more_expression, EndsWithNoLiteral-expression, IsFirstFault-after}
use Rattle.uri_grammar.proofs.template.read.Goals as goal

pub literals_len-len-requires : goal.literals_len-len-requires
literals_len-len-requires c =
    rw c.split_at.ensures.back (omega (arith, length-drop c.loop-done.done c.args.chars.now, length-le-encodes c.args.chars.now, c.requires))

pub literal-requires : goal.literal-requires
literal-requires c =
    rw (c.split_at-then-len-gt0.ensures.front, c.split_at.ensures.back)
    (omega (
      arith,
      length-encodes-take (drop c.loop-done.done c.args.chars.now) c.literals_len-len.result,
      length-encodes-drop c.args.chars.now c.loop-done.done,
      c.requires,
    ))

pub loop-done-preserved-then-len-gt0 : goal.loop-done-preserved-then-len-gt0
loop-done-preserved-then-len-gt0 c =
    let rest = c.split_at.ensures.back in
    let raw : c.split_at-then-len-gt0.result.0.now ≡ take c.literals_len-len.result (drop c.loop-done.done c.args.chars.now) =
    c.split_at-then-len-gt0.ensures.front ∙ ap (take c.literals_len-len.result) rest in
    let literals = subst (λ (cs : List ℕ). AreLiterals (take c.literals_len-len.result cs)) rest c.literals_len-len.ensures.literals in
    let begins = subst (λ (cs : List ℕ). 0 < literal_item_len cs) rest (c.literals_len-len.ensures.some c.if-len-gt0.true) in
    let within = subst (λ (cs : List ℕ). c.literals_len-len.result ≤ length cs) rest c.literals_len-len.ensures.within in
    let after : literal_item_len (drop (c.loop-done.done + c.literals_len-len.result) c.args.chars.now) ≡ 0 = grind (arith, common_steps) in
    let pushed = c.in_ok-push.ensures.items ∙ ap (λ (p : Part). c.loop-done.parts.items ++ p ∷ []) c.in_ok-literal.ensures in
    record {
      within = omega (arith, within, length-drop c.loop-done.done c.args.chars.now);
      spelled = Spells-more_literal c.args.chars.now c.split_at-then-len-gt0.result.0.now c.loop-done.done c.literals_len-len.result c.loop-done.parts.items
          c.push.new.self.items raw within c.if-len-gt0.true literals pushed (c.loop-done.invariant.open_end begins) c.loop-done.invariant.spelled;
      open_end = λ more. absurd (omega (arith, more, after));
    }

pub expression-requires-clause-short : goal.expression-requires-clause-short
expression-requires-clause-short c =
    rw c.split_at.ensures.back (omega (arith, length-drop c.loop-done.done c.args.chars.now, length-le-encodes c.args.chars.now, c.requires))

pub loop-done-preserved : goal.loop-done-preserved
loop-done-preserved c =
    let expression = subst (λ (cs : List ℕ). IsExpression (take c.in-Ok.len cs) c.in-Ok.part) c.split_at.ensures.back c.in-Ok.ensures.ok in
    record {
      within = omega (arith, c.in-Ok.ensures.within, c.split_at.ensures.back_len);
      spelled = Spells-more_expression c.args.chars.now c.loop-done.done c.in-Ok.len c.in-Ok.part c.loop-done.parts.items c.push-in-Ok.new.self.items
          expression c.in_ok-push-in-Ok.ensures.items c.loop-done.invariant.spelled;
      open_end = λ _. rw c.in_ok-push-in-Ok.ensures.items (EndsWithNoLiteral-expression c.loop-done.parts.items c.in-Ok.part _ expression);
    }

pub byte_len-requires : goal.byte_len-requires
byte_len-requires c =
    rw c.split_at.ensures.front (omega (arith, length-encodes-take c.args.chars.now c.loop-done.done, c.requires))

pub after-requires : goal.after-requires
after-requires c = omega (
  arith,
  c.in-Err.ensures.near,
  c.byte_len.ensures,
  ap length (ap encode_utf8_all c.split_at.ensures.front),
  length-encodes-take c.args.chars.now c.loop-done.done,
  c.requires,
)

pub returns-in-Err-clause-err : goal.returns-in-Err-clause-err
returns-in-Err-clause-err c =
    let fault = subst (λ (cs : List ℕ). IsFault c.in-Err.e (IsPartFault cs)) c.split_at.ensures.back c.in-Err.ensures.err in
    rw (c.after.ensures, c.byte_len.ensures, c.split_at.ensures.front) (IsFirstFault-after c.args.chars.now c.loop-done.done c.loop-done.parts.items c.in-Err.e
    c.loop-done.invariant.spelled fault)

pub expression-requires-clause-no_literal : goal.expression-requires-clause-no_literal
expression-requires-clause-no_literal c = grind (arith, common_steps)
