use Rattle.std.proofs.Common.{sym, ◌∙◌}
use Rattle.openurl_reading.proofs.FieldsCopied.{number_of_book, number_of_journal}
use Rattle.openurl_reading.proofs.fields.copy_number.Goals as goal

pub returns-then-is_of_book : goal.returns-then-is_of_book
returns-then-is_of_book c = c.in_ok-pairs.ensures ∙ sym (number_of_book c.args.pairs (sym c.in_ok-is_of_book.ensures ∙ c.if-is_of_book.true))

pub returns : goal.returns
returns c = c.in_ok-pairs-2.ensures ∙ sym (number_of_journal c.args.pairs (sym c.in_ok-is_of_book.ensures ∙ c.if-is_of_book.false))
