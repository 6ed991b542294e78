use Rattle.std.proofs.Common.{sym, ◌∙◌, arith, slice_range}
use Rattle.kev_read.proofs.DecodedForms.{decoded_ordinary, ordinary_utf8}
use Rattle.kev_read.proofs.PairsInText.{query_within, range_of_query}
use Rattle.kev_read.proofs.pair_reader.read_part.Goals as goal

pub returns-then-is_ordinary-clause-part : goal.returns-then-is_ordinary-clause-part
returns-then-is_ordinary-clause-part c =
    let query = c.args.query.now in
    let text = c.args.text.now.items in
    let part = slice_range query c.args.start c.args.end in
    let ordinary = c.requires.ordinary c.if-is_ordinary.true in
    let is = range_of_query query text c.args.start c.args.end c.requires.held c.requires.forwards c.requires.within in
    let within = query_within query text c.requires.held in (
      grind (arith, within, c.requires.within, is, ordinary_utf8, ordinary),
      is ∙ sym (decoded_ordinary part ordinary),
    )
