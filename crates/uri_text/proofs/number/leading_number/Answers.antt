use Rattle.std.proofs.Common.{◌≡◌, ◌∙◌, ◌*◌, ◌+◌, sym, ap, subst, get_or, true, arith}
use Rattle.std.specs.Char.{is_ascii_digit}
use Rattle.uri_text.proofs.LeadingNumbers.{HasRead, digit_low, next_read, number_before, number_last, number_too_long, room_for_digit}
use Rattle.uri_text.proofs.number.leading_number.Goals as goal

pub returns-then-not-is_ascii_digit-clause-value : goal.returns-then-not-is_ascii_digit-clause-value
returns-then-not-is_ascii_digit-clause-value c =
    c.then_some.ensures
    ∙ sym (number_before c.args.text.now c.loop-count.count c.loop-count.number c.loop-count.invariant c.loop-count-test.true
    (sym c.is_ascii_digit.ensures.value ∙ c.if-not-is_ascii_digit.true))

pub returns-then-count-eq9-clause-value : goal.returns-then-count-eq9-clause-value
returns-then-count-eq9-clause-value c =
    let nine = c.if-count-eq9.true in
    sym (number_too_long c.args.text.now c.loop-count.number (subst (λ n. HasRead c.args.text.now n c.loop-count.number) nine c.loop-count.invariant)
    (omega arith)
    (ap (λ n. is_ascii_digit (get_or c.args.text.now n 0)) (sym nine) ∙ (sym c.is_ascii_digit.ensures.value ∙ c.if-not-is_ascii_digit.false)))

pub overflow_mul-number : goal.overflow_mul-number
overflow_mul-number c =
    omega (arith, room_for_digit c.args.text.now c.loop-count.count c.loop-count.number c.loop-count.invariant (omega arith))

pub overflow_add-number : goal.overflow_add-number
overflow_add-number c = grind (arith, digit_low, room_for_digit, c.loop-count.invariant)

pub loop-count-preserved : goal.loop-count-preserved
loop-count-preserved c =
    let byte = get_or c.args.text.now c.loop-count.count 0 in
    let digit : is_ascii_digit byte ≡ true = sym c.is_ascii_digit.ensures.value ∙ c.if-not-is_ascii_digit.false in
    subst (λ n. HasRead c.args.text.now (c.loop-count.count + 1) (10 * c.loop-count.number + n)) (sym c.from.ensures)
    (next_read c.args.text.now c.loop-count.count c.loop-count.number c.loop-count.invariant c.loop-count-test.true digit (digit_low byte digit) (omega arith))

pub returns-clause-value : goal.returns-clause-value
returns-clause-value c = grind (arith, c.is_empty.ensures, number_last, c.loop-count.invariant)
