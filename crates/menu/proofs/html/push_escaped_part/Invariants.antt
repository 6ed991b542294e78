use Rattle.std.proofs.Common.{◌≡◌, ◌++◌, length, string_bytes}
use denote.Text.{Utf8}
use denote.Shadow.{shadow}
use Rattle.menu.specs.Escaping.{HasNone, ampersand, escaped}
use Rattle.menu.proofs.html.push_escaped_part.Given as goal

-- what has been written, with what is still to write, is the whole
abbrev pub invariant-loop-plain : goal.invariant-loop-plain
invariant-loop-plain l =
    shadow (Utf8 l.rest) × (string_bytes l.out ++ escaped l.rest ≡ string_bytes l.fn.out ++ escaped l.part) × HasNone ampersand l.rest

abbrev pub decreases-loop-plain : goal.decreases-loop-plain
decreases-loop-plain l = length l.rest
