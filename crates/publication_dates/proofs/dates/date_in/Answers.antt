use Rattle.std.proofs.Common.{◌≡◌, Some, sym, ◌∙◌, ap, subst}
use Rattle.std.specs.Str.{IsAscii}
use Rattle.std.specs.Option.{option_map}
use Rattle.std.specs.Vec.{vec_items}
use Rattle.text_model.specs.Texts.{texts_of}
use Rattle.publication_dates.specs.Dates as spec
use Rattle.publication_dates.proofs.Read.{read_is_date}
use Rattle.publication_dates.proofs.AsciiDates.{ascii_date}
use Rattle.publication_dates.proofs.dates.date_in.Goals as goal

pub ascii_text-requires : goal.ascii_text-requires
ascii_text-requires c =
    let date = c.in-Some.date.items in
    let trimmed = c.trimmed-trimmed.ensures in
    let read : spec.date_in c.args.text.now ≡ Some date =
    ap (λ t. spec.date_of t (spec.parts t)) (sym trimmed)
    ∙ ap (spec.date_of c.trimmed-trimmed.result.now) (sym c.in_ok-parts.ensures ∙ ap texts_of (sym c.deref.ensures.value))
    ∙ sym c.in_ok-date.ensures ∙ ap (option_map vec_items) c.in-Some.is in
    subst IsAscii (sym c.deref-in-Some.ensures.value) (ascii_date date (read_is_date c.args.text.now date read))
