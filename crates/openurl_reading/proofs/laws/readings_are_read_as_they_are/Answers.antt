use Rattle.openurl_reading.proofs.Again.{reading_again}
use Rattle.openurl_reading.proofs.FoundAre.{found_are}
use Rattle.openurl_reading.proofs.Identified.{identified}
use Rattle.openurl_reading.proofs.IdentifierForms.{BeginsWithDigit}
use Rattle.openurl_reading.proofs.LowerLaws.{found_again, found_digits}
use Rattle.openurl_reading.proofs.PagesFound.{pages_again, pages_not_blank}
use Rattle.openurl_reading.proofs.VolumeForms.{numbers_not_blank}
use Rattle.openurl_reading.proofs.VolumeLaws.{numbers_again}
use Rattle.openurl_reading.proofs.ReadOnce.{read_once}
use Rattle.openurl_reading.proofs.laws.readings_are_read_as_they_are.Goals as goal

pub returns-clause-steps : goal.returns-clause-steps
returns-clause-steps c =
    read_once c.texts_are_read_once.ensures
    (found_again (record { stay = c.plain_texts_stay.ensures.number; short = c.texts_are_bounded.ensures })
    c.issns_are_issns.ensures c.issns_are_found_alone.ensures c.isbns_are_isbns.ensures c.isbns_stay.ensures
    c.dates_are_read.ensures c.dates_stay.ensures)
    (numbers_again (record {
      short = c.parts_are_short.ensures.part;
      first_part = c.numbers_are_parts.ensures.first;
      issue_part = c.numbers_are_parts.ensures.issue;
      supplement_part = c.numbers_are_parts.ensures.supplement;
      first_alone = c.numbers_stay.ensures.first;
      issue_alone = c.numbers_stay.ensures.issue;
      supplement_alone = c.supplements_stay.ensures.alone;
      after_number = c.supplements_stay.ensures.after_number;
      first_word = c.parts_are_plain.ensures.first;
      issue_word = c.parts_are_plain.ensures.issue;
      supplement_word = c.parts_are_plain.ensures.supplement;
      written = record { stay = c.plain_texts_stay.ensures.number; short = c.texts_are_bounded.ensures };
    }))
    (pages_again (record {
      are = c.pages_are_parts.ensures.first;
      short = c.parts_are_short.ensures.part;
      firsts = c.pages_stay.ensures.first;
      lasts = c.pages_stay.ensures.last;
      first_words = c.parts_are_plain.ensures.page;
      last_words = c.parts_are_plain.ensures.last_page;
      written = record { stay = c.plain_texts_stay.ensures.number; short = c.texts_are_bounded.ensures };
    }))
    (identified c.identifiers_are_identifiers.ensures.named c.identifiers_are_identifiers.ensures.alone c.identifiers_stay.ensures.named
    c.uris_have_one_namespace.ensures c.preprints_have_dois.ensures.doi c.preprints_have_dois.ensures.uri
    c.dois_in_addresses_are_dois.ensures.are c.identifiers_are_identifiers.ensures.mentioned)

pub returns-clause-reading : goal.returns-clause-reading
returns-clause-reading c pairs few =
    reading_again c.texts_are_not_blank.ensures
    (identified c.identifiers_are_identifiers.ensures.named c.identifiers_are_identifiers.ensures.alone c.identifiers_stay.ensures.named
    c.uris_have_one_namespace.ensures c.preprints_have_dois.ensures.doi c.preprints_have_dois.ensures.uri
    c.dois_in_addresses_are_dois.ensures.are c.identifiers_are_identifiers.ensures.mentioned)
    (returns-clause-steps c)
    (found_are BeginsWithDigit (found_digits c.issns_are_issns.ensures c.isbns_are_isbns.ensures c.dates_are_read.ensures))
    (numbers_not_blank (record {
      short = c.parts_are_short.ensures.part;
      first_part = c.numbers_are_parts.ensures.first;
      issue_part = c.numbers_are_parts.ensures.issue;
      supplement_part = c.numbers_are_parts.ensures.supplement;
      first_alone = c.numbers_stay.ensures.first;
      issue_alone = c.numbers_stay.ensures.issue;
      supplement_alone = c.supplements_stay.ensures.alone;
      after_number = c.supplements_stay.ensures.after_number;
      first_word = c.parts_are_plain.ensures.first;
      issue_word = c.parts_are_plain.ensures.issue;
      supplement_word = c.parts_are_plain.ensures.supplement;
      written = record { stay = c.plain_texts_stay.ensures.number; short = c.texts_are_bounded.ensures };
    }))
    (pages_not_blank c.pages_stay.ensures.first c.pages_stay.ensures.last) pairs few
