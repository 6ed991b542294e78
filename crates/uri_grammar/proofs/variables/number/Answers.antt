use Rattle.std.proofs.Common.{◌∙◌, ◌<◌, ◌≤◌, ◌+◌, ◌*◌, ◌-◌, sym, arith}
use Rattle.uri_grammar.specs.declared.variables.TheConstants.{MAX_PREFIX}
use Rattle.uri_grammar.proofs.NumberLemmas.{next_read, too_large, all_read}
use Rattle.uri_grammar.proofs.variables.number.Goals as goal

pub returns-then-number-from : goal.returns-then-number-from
returns-then-number-from c =
    let large : MAX_PREFIX < 10 * c.loop-c.number + (c.c-item.result - 48) = omega (arith, c.if-number-from.true, c.from.ensures, c.digit.ensures.value) in
    sym (too_large c.args.digits.now c.loop-c.c-index c.loop-c.number c.c-item.result c.loop-c.invariant c.loop-c-test.true c.c-item.is large)

pub loop-c-preserved : goal.loop-c-preserved
loop-c-preserved c =
    let digit = sym c.is_ascii_digit.ensures.value ∙ c.if-not-is_ascii_digit.false in
    let small : 10 * c.loop-c.number + (c.c-item.result - 48) ≤ MAX_PREFIX = omega (arith, c.if-number-from.false, c.from.ensures, c.digit.ensures.value) in
    rw c.digit.ensures.value (next_read c.args.digits.now c.loop-c.c-index c.loop-c.number c.c-item.result c.loop-c.invariant c.loop-c-test.true c.c-item.is
    digit small)

pub returns : goal.returns
returns c = grind (arith, all_read, c.loop-c-test.false, c.begins_above_zero.ensures, c.if-not-begins_above_zero.false)
