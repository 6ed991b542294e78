-- The lines of the names so far.
use Rattle.std.proofs.Common.{◌≡◌, ◌++◌, take, string_bytes}
use Rattle.std.specs.List.{flat_map}
use Rattle.text_model.specs.Texts.{texts_of}
use Rattle.rule_explanation.specs.Explanation.{name_line}
use Rattle.rule_explanation.proofs.names.push_names.Given as goal

abbrev pub invariant-loop-name : goal.invariant-loop-name
invariant-loop-name g l =
    string_bytes l.out ≡ string_bytes l.initial.out ++ flat_map (name_line (g.V.Variables.look l.variables)) (texts_of (take l.name-index l.names))
