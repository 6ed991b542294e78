use Rattle.std.proofs.Common.{◌≡◌, Some, sym, ◌∙◌, subst}
use Rattle.std.specs.Str.{IsAscii}
use Rattle.publication_dates.specs.Dates.{date_in}
use Rattle.publication_dates.proofs.Read.{read_is_date}
use Rattle.publication_dates.proofs.AsciiDates.{ascii_date}
use Rattle.publication_dates.proofs.days.days_in.Goals as goal

pub first_and_last-requires : goal.first_and_last-requires
first_and_last-requires c =
    let date = c.in-Some.date in
    let read : date_in c.args.text.now ≡ Some date = sym c.in_ok-date.ensures ∙ c.in-Some.is in
    subst IsAscii (sym (c.as_bytes.ensures.value ∙ c.as_str.ensures)) (ascii_date date (read_is_date c.args.text.now date read))
