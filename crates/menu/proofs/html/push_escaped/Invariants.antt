use Rattle.std.proofs.Common.{◌≡◌, ◌++◌, length, string_bytes}
use denote.Text.{Utf8}
use denote.Shadow.{shadow}
use Rattle.menu.specs.Escaping.{escaped}
use Rattle.menu.proofs.html.push_escaped.Given as goal

-- what has been written, with what is still to write, is the whole
abbrev pub invariant-loop-part : goal.invariant-loop-part
invariant-loop-part l = shadow (Utf8 l.rest) × (string_bytes l.out ++ escaped l.rest ≡ string_bytes l.fn.out ++ escaped l.link)

abbrev pub decreases-loop-part : goal.decreases-loop-part
decreases-loop-part l = length l.rest
