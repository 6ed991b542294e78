-- The names so far.
use Rattle.std.proofs.Common.{◌≡◌, Bor, take}
use Rattle.std.specs.HashSet.{contains}
use Rattle.std.specs.Str.{bytes_eq}
use Rattle.text_model.specs.Texts.{Text, texts_of}
use Rattle.environment_model.specs.Environment.{is_among}
use Rattle.rule_parser.specs.Names.{each_once}
use Rattle.rule_lint.proofs.distinct.distinct.Given as goal

abbrev pub invariant-loop-name : goal.invariant-loop-name
invariant-loop-name l =
    let before = texts_of (take l.name-index l.names) in record {
      seen : (name : Bor Text) → contains (λ x y. bytes_eq x.now y.now) l.seen name ≡ is_among name.now before;
      found : texts_of l.found.items ≡ each_once before;
    }
