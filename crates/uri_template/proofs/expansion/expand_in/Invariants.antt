use Rattle.std.proofs.Common.{◌≡◌, take, string_bytes}
use Rattle.uri_template.specs.Expansion.{expansion}
use Rattle.uri_template.proofs.expansion.expand_in.Given as goal

abbrev pub invariant-loop-part : goal.invariant-loop-part
invariant-loop-part g l = string_bytes l.out ≡ expansion (g.V.Variables.look l.variables) (take l.part-index l.part-items)
