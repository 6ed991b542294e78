use Rattle.std.proofs.Common.{◌≡◌, drop}
use Rattle.std.specs.List.{list_all}
use Rattle.openurl_reading.specs.ArticleNumbers.{is_number_byte}
use Rattle.openurl_reading.proofs.article_numbers.are_number_bytes.Given as goal

abbrev pub invariant-loop-byte : goal.invariant-loop-byte
invariant-loop-byte l = list_all is_number_byte (drop l.byte-index l.text) ≡ list_all is_number_byte l.text
