use Rattle.std.proofs.Common.{◌≡◌, ◌++◌, drop, false}
use Rattle.title_markup.specs.Spaces.{words_after}
use Rattle.title_markup.proofs.spaces.words.Given as goal

abbrev pub invariant-loop-byte : goal.invariant-loop-byte
invariant-loop-byte l =
    l.words.items ++ words_after l.has_begun l.has_gap (drop l.byte-index l.text) ≡ words_after false false l.text
