use Rattle.std.proofs.Common.{◌≡◌, ◌++◌, take, drop}
use Rattle.std.specs.Prelude.{string_bytes}
use Rattle.std.specs.List.{All}
use Rattle.source_requests.specs.Requests.{IsUtf8Pair, fitting, fitting_after, written}
use Rattle.source_requests.proofs.forms.fitting_form.Given as goal

-- the pairs before this one are in the form, and what is left decides about the others
abbrev pub invariant-loop-pair : goal.invariant-loop-pair
invariant-loop-pair l = record {
  split : fitting l.pairs ≡ take l.pair-index l.pairs ++ fitting_after (string_bytes l.text) (drop l.pair-index l.pairs);
  text : string_bytes l.text ≡ written (take l.pair-index l.pairs);
  utf8 : All IsUtf8Pair (take l.pair-index l.pairs);
}
