use Rattle.std.proofs.Common.{◌≤◌, length, map, arith}
use Rattle.std.proofs.lemmas.List.{length-take}
use Rattle.openurl_reading.specs.Counting.{accepted, counting, most_pairs}
use Rattle.openurl_reading.specs.Keys.{named}
use Rattle.openurl_reading.specs.Reading.{normal_form, with_derived}
use Rattle.openurl_reading.proofs.Cited.{AreCitedLight}
use Rattle.openurl_reading.proofs.CitedParts.{cited_short}
use Rattle.openurl_reading.proofs.FoundAre.{AreFoundIn, found_are}
use Rattle.openurl_reading.proofs.Identified.{identified}
use Rattle.openurl_reading.proofs.IdentifierForms.{identifier_short}
use Rattle.work_identifiers.specs.Uris.{longest_uri}
use Rattle.openurl_reading.proofs.LowerLaws.{found_short, days_short}
use Rattle.openurl_reading.proofs.PagesFound.{pages_short}
use Rattle.openurl_reading.proofs.VolumeForms.{numbers_short}
use Rattle.openurl_reading.proofs.VolumeLaws.{AreFoundNumbers}
use Rattle.openurl_reading.proofs.KeysWeigh.{AreLight, formats_short, source_short}
use Rattle.openurl_reading.proofs.DerivedWeigh.{encoded_short}
use Rattle.openurl_reading.proofs.PartsPass.{parts_short}
use Rattle.openurl_reading.proofs.PartsSourced.{ArePlacedLight}
use Rattle.openurl_reading.proofs.Sourced.{names_short}
use Rattle.openurl_reading.proofs.Sizes.{ArePagesLight, pages_light, reading_weighs, counting_weighs, total-one}
use Rattle.openurl_reading.proofs.laws.readings_are_bounded.Goals as goal

pub returns-clause-few : goal.returns-clause-few
returns-clause-few c pairs =
    let counted = counting pairs in
    let each : AreFoundIn (λ n. 1 ≤ 1) = record {
      issns = λ value k d h. omega arith;
      isbns = λ value k d h. omega arith;
      dates = λ value date e. omega arith;
    } in
    let light : AreLight (λ n. 1) 1 (λ namespace. 1) = record {
      found = found_are (λ n. 1 ≤ 1) each;
      days = λ pairs date e. (omega arith, omega arith);
      version = omega arith;
      source = λ sid. omega arith;
      journal = λ v n e. omega arith;
      text = λ role text. omega arith;
      identified = identified c.identifiers_are_identifiers.ensures.named c.identifiers_are_identifiers.ensures.alone
          c.identifiers_stay.ensures.named c.uris_have_one_namespace.ensures c.preprints_have_dois.ensures.doi c.preprints_have_dois.ensures.uri
          c.dois_in_addresses_are_dois.ensures.are c.identifiers_are_identifiers.ensures.mentioned;
      identifier = λ namespace n plain is. omega arith;
      uri = λ namespace n is. omega arith;
    } in
    let cited : AreCitedLight (λ n. 1) 1 = λ pairs found e. record {
      name = omega arith;
      volume = λ n g b. omega arith;
      issue = λ n g b. omega arith;
      pages = λ n g b. omega arith;
      year = λ n g b. omega arith;
    } in
    let placed : ArePlacedLight (λ n. 1) 1 = λ pairs found e. record {
      volume = λ n g b. omega arith;
      issue = λ n g b. omega arith;
      pages = λ n g b. omega arith;
      year = λ n g b. omega arith;
    } in
    let pages : ArePagesLight (λ n. 1) 1 1 = record { first = λ pairs n e. omega arith; last = λ pairs n e. omega arith } in
    let numbers : AreFoundNumbers (λ n. 1 ≤ 1) = λ value. record {
      number = λ number n e is. omega arith;
      supplement = λ mark n e f. omega arith;
      both = λ number mark n e is f. omega arith;
    } in
    omega (
      arith,
      reading_weighs (λ n. 1) 1 1 1 1 1 1 1 (λ namespace. 1) light (λ doi encoded is e. omega arith) (λ kind. omega arith) cited placed numbers pages counted,
      total-one counted,
      total-one (with_derived (normal_form counted)),
    )

pub returns-clause-counting : goal.returns-clause-counting
returns-clause-counting c pairs = omega (arith, length-take most_pairs (accepted (map named pairs)))

pub returns-clause-bytes : goal.returns-clause-bytes
returns-clause-bytes c pairs =
    let counted = counting pairs in
    let light : AreLight (λ n. length n) 13 longest_uri = record {
      found = found_are (λ n. length n ≤ 13) (found_short c.issns_are_issns.ensures c.isbns_are_isbns.ensures c.dates_are_read.ensures);
      days = days_short c.dates_are_read.ensures c.days_are_days.ensures.first c.days_are_days.ensures.last;
      version = omega arith;
      source = source_short;
      journal = names_short;
      text = c.texts_are_bounded.ensures;
      identified = identified c.identifiers_are_identifiers.ensures.named c.identifiers_are_identifiers.ensures.alone
          c.identifiers_stay.ensures.named c.uris_have_one_namespace.ensures c.preprints_have_dois.ensures.doi c.preprints_have_dois.ensures.uri
          c.dois_in_addresses_are_dois.ensures.are c.identifiers_are_identifiers.ensures.mentioned;
      identifier = identifier_short c.uris_are_short.ensures;
      uri = c.uris_are_short.ensures;
    } in
    let cited = cited_short c.references_are_parts.ensures.name c.references_are_parts.ensures.pieces in
    let placed = parts_short c.references_are_parts.ensures.pieces in
    let short = pages_short c.pages_are_parts.ensures.first c.pages_are_parts.ensures.last c.parts_are_short.ensures.part
    c.parts_are_short.ensures.last in
    let pages : ArePagesLight (λ n. length n) 200 400 = pages_light short in
    let numbers = numbers_short (record {
      short = c.parts_are_short.ensures.part;
      first_part = c.numbers_are_parts.ensures.first;
      issue_part = c.numbers_are_parts.ensures.issue;
      supplement_part = c.numbers_are_parts.ensures.supplement;
      first_alone = c.numbers_stay.ensures.first;
      issue_alone = c.numbers_stay.ensures.issue;
      supplement_alone = c.supplements_stay.ensures.alone;
      after_number = c.supplements_stay.ensures.after_number;
      first_word = c.parts_are_plain.ensures.first;
      issue_word = c.parts_are_plain.ensures.issue;
      supplement_word = c.parts_are_plain.ensures.supplement;
      written = record { stay = c.plain_texts_stay.ensures.number; short = c.texts_are_bounded.ensures };
    }) in
    omega (
      arith,
      reading_weighs (λ n. length n) 13 1527 33 500 407 200 400 longest_uri light
          (encoded_short c.uris_are_short.ensures c.writing_at_most_triples.ensures) formats_short cited placed numbers pages counted,
      counting_weighs (λ n. length n) pairs,
    )
