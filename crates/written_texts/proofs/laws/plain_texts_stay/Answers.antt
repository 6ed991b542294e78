use Rattle.written_texts.specs.declared.readings.Role.TheVariants.{Identifier, Number, Other, Title}
use Rattle.written_texts.proofs.Plain.{identifier_stays, number_stays, other_stays, title_stays}
use Rattle.written_texts.proofs.Settling.{read_stays}
use Rattle.written_texts.proofs.laws.plain_texts_stay.Goals as goal

pub returns-clause-other : goal.returns-clause-other
returns-clause-other c text plain =
    read_stays Other text (other_stays c.plain_texts_stay.ensures.unmarked c.plain_titles_are_bounded.ensures.stays text plain)

pub returns-clause-title : goal.returns-clause-title
returns-clause-title c text plain wordless =
    read_stays Title text
    (title_stays c.plain_texts_stay.ensures.unmarked c.plain_titles_are_bounded.ensures.stays c.other_titles_stay.ensures.wordless text plain wordless)

pub returns-clause-number : goal.returns-clause-number
returns-clause-number c text plain = read_stays Number text (number_stays c.plain_numbers_stay.ensures text plain)

pub returns-clause-identifier : goal.returns-clause-identifier
returns-clause-identifier c text plain = read_stays Identifier text (identifier_stays c.plain_identifiers_stay.ensures text plain)
