use Rattle.openurl_reading.proofs.Identified.{identified}
use Rattle.openurl_reading.proofs.LowerLaws.{found_again}
use Rattle.openurl_reading.proofs.VolumeLaws.{numbers_again}
use Rattle.openurl_reading.proofs.NothingInvented.{nothing_invented}
use Rattle.openurl_reading.proofs.laws.nothing_is_invented.Goals as goal

pub returns : goal.returns
returns c =
    nothing_invented
    (found_again (record { stay = c.plain_texts_stay.ensures.number; short = c.texts_are_bounded.ensures })
    c.issns_are_issns.ensures c.issns_are_found_alone.ensures c.isbns_are_isbns.ensures c.isbns_stay.ensures
    c.dates_are_read.ensures c.dates_stay.ensures)
    (numbers_again (record {
      short = c.parts_are_short.ensures.part;
      first_part = c.numbers_are_parts.ensures.first;
      issue_part = c.numbers_are_parts.ensures.issue;
      supplement_part = c.numbers_are_parts.ensures.supplement;
      first_alone = c.numbers_stay.ensures.first;
      issue_alone = c.numbers_stay.ensures.issue;
      supplement_alone = c.supplements_stay.ensures.alone;
      after_number = c.supplements_stay.ensures.after_number;
      first_word = c.parts_are_plain.ensures.first;
      issue_word = c.parts_are_plain.ensures.issue;
      supplement_word = c.parts_are_plain.ensures.supplement;
      written = record { stay = c.plain_texts_stay.ensures.number; short = c.texts_are_bounded.ensures };
    }))
    (identified c.identifiers_are_identifiers.ensures.named c.identifiers_are_identifiers.ensures.alone c.identifiers_stay.ensures.named
    c.uris_have_one_namespace.ensures c.preprints_have_dois.ensures.doi c.preprints_have_dois.ensures.uri
    c.dois_in_addresses_are_dois.ensures.are c.identifiers_are_identifiers.ensures.mentioned)
