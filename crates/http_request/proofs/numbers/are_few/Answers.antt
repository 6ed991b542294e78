use Rattle.std.proofs.Common.{◌≡◌, ◌+◌, ◌-◌, ◌&&◌, true, false, ap, ◌∙◌, sym, arith}
use Rattle.std.specs.List.{after_first, before_first}
use Rattle.http_request.specs.Numbers.{are_few, has_number_length, is_comma}
use Rattle.http_request.specs.declared.numbers.TheConstants.{MAX_NUMBERS}
use Rattle.http_request.proofs.Commas.{first, last, none}
use Rattle.http_request.proofs.numbers.are_few.Goals as goal

pub returns-in_default : goal.returns-in_default
returns-in_default c =
    let more = MAX_NUMBERS - c.loop-number._number in
    sym (c.loop-number.invariant ∙ last more c.loop-number.left.now (omega (arith, c.loop-number-test.true)) c.in_default.ensures.none
    ∙ sym c.has_number_length.ensures)

pub returns-then-not-has_number_length : goal.returns-then-not-has_number_length
returns-then-not-has_number_length c =
    let left = c.loop-number.left.now in
    let more = MAX_NUMBERS - c.loop-number._number in
    let long : has_number_length (before_first is_comma left) ≡ false =
    sym (ap has_number_length c.in-Some.ensures.number) ∙ sym c.has_number_length-in-loop-number.ensures ∙ c.if-not-has_number_length.true in
    sym (c.loop-number.invariant ∙ first more left (omega (arith, c.loop-number-test.true)) c.in-Some.ensures.comma
    ∙ ap (λ b. b && are_few (more - 1) (after_first is_comma left)) long)

pub loop-number-preserved : goal.loop-number-preserved
loop-number-preserved c =
    let left = c.loop-number.left.now in
    let more = MAX_NUMBERS - c.loop-number._number in
    let long : has_number_length (before_first is_comma left) ≡ true =
    sym (ap has_number_length c.in-Some.ensures.number) ∙ sym c.has_number_length-in-loop-number.ensures ∙ c.if-not-has_number_length.false in
    let fewer : more - 1 ≡ MAX_NUMBERS - (c.loop-number._number + 1) = omega arith in
    c.loop-number.invariant ∙ first more left (omega (arith, c.loop-number-test.true)) c.in-Some.ensures.comma
    ∙ ap (λ b. b && are_few (more - 1) (after_first is_comma left)) long
    ∙ ap (λ n. are_few n (after_first is_comma left)) fewer
    ∙ ap (are_few (MAX_NUMBERS - (c.loop-number._number + 1))) (sym c.in-Some.ensures.rest)

pub returns : goal.returns
returns c =
    let all : MAX_NUMBERS - c.loop-number._number ≡ 0 = omega (arith, c.loop-number-test.false) in
    sym (c.loop-number.invariant ∙ ap (λ n. are_few n c.loop-number.left.now) all ∙ none c.loop-number.left.now)
