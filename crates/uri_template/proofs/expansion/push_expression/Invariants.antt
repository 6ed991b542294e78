use Rattle.std.proofs.Common.{◌≡◌, ◌++◌, drop, string_bytes}
use Rattle.uri_template.specs.Expansion.{pieces, led}
use Rattle.uri_template.specs.Private.Pieces.{pieces_from}
use Rattle.uri_template.proofs.expansion.push_expression.Given as goal

-- what has been appended, with the variables that are left, is the whole
abbrev pub invariant-loop-spec : goal.invariant-loop-spec
invariant-loop-spec g l =
    string_bytes l.out ++ pieces_from l.style.first l.style.sep l.is_first (pieces (g.V.Variables.look l.variables) l.style (drop l.spec-index l.specs))
    ≡ string_bytes l.fn.out ++ led l.style (pieces (g.V.Variables.look l.variables) l.style l.specs)
