use Rattle.std.proofs.Common.{sym, ◌∙◌, subst}
use Rattle.std.specs.Str.{IsAscii}
use Rattle.publication_dates.proofs.AsciiDays.{first_ascii, last_day_ascii}
use Rattle.publication_dates.proofs.days.first_and_last.Goals as goal

pub ascii_text-requires : goal.ascii_text-requires
ascii_text-requires c =
    subst IsAscii (sym (c.deref.ensures.value ∙ c.in_ok-first.ensures)) (first_ascii c.args.date.now c.requires)

pub ascii_text-requires-2 : goal.ascii_text-requires-2
ascii_text-requires-2 c =
    subst IsAscii (sym (c.deref-2.ensures.value ∙ c.in_ok-last.ensures)) (last_day_ascii c.args.date.now c.requires)
