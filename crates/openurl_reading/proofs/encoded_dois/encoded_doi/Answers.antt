use Rattle.std.proofs.Common.{arith}
use Rattle.text_model.specs.declared.writing.Writing.TheVariants.{U}
use Rattle.openurl_reading.proofs.encoded_dois.encoded_doi.Goals as goal

pub encode_u-requires : goal.encode_u-requires
encode_u-requires c = omega (arith, c.writing_at_most_triples.ensures U c.as_bytes-bytes.result.now, c.saturating_mul.ensures, c.in_ok-reserve.ensures.ok)
