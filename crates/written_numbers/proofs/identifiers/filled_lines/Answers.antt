use Rattle.std.proofs.Common.{rules, tests, arith}
use Rattle.std.proofs.lemmas.Iterator.{YieldsList-from_map_by}
use Rattle.std.proofs.lemmas.Iterator.Consumers.{YieldsList-at, YieldsList-from_filter, map_from_collect}
use Rattle.std.proofs.lemmas.Iterator.Splits.{YieldsList-from_str_split}
use Rattle.written_numbers.specs.Characters.{line_feed}
use Rattle.written_numbers.specs.Identifiers.{is_filled, trimmed, filled_lines}
use Rattle.written_numbers.proofs.identifiers.filled_lines.Goals as goal

pub returns : goal.returns
unfolding filled_lines
returns c =
    map_from_collect _ c.collect.ensures.ran
    (YieldsList-from_filter _ is_filled
    (YieldsList-at c.filter.ensures.source
    (YieldsList-from_map_by _ (λ x. x.now) trimmed
    (YieldsList-at c.map.ensures.source
    (YieldsList-from_str_split line_feed c.args.text.now (omega arith) c.split.ensures.text c.split.ensures.has_more
    c.split.ensures.pattern))
    c.map.ensures.closure (λ x r q k. search rules)))
    c.filter.ensures.closure (λ x r q k. search (rules, tests)))
