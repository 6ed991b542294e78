use Rattle.std.proofs.Common.{◌≡◌, ◌-◌}
use Rattle.http_request.specs.Numbers.{are_few}
use Rattle.http_request.specs.declared.numbers.TheConstants.{MAX_NUMBERS}
use Rattle.http_request.proofs.numbers.are_few.Given as goal

-- what is left decides
abbrev pub invariant-loop-number : goal.invariant-loop-number
invariant-loop-number l = are_few MAX_NUMBERS l.text ≡ are_few (MAX_NUMBERS - l._number) l.left
