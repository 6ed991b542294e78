use Rattle.std.proofs.Common.{[], ap, ◌∙◌, lit<}
use Rattle.openurl_reading.specs.Reading.{normal_form, with_derived}
use Rattle.openurl_reading.proofs.CanonicalStays.{kept_settled}
use Rattle.openurl_reading.proofs.Identified.{identified}
use Rattle.openurl_reading.proofs.CanonicalNames.{canonical_named}
use Rattle.openurl_reading.proofs.LowerLaws.{issn_kept, isbn_kept, date_kept}
use Rattle.openurl_reading.proofs.PlainNumbers.{AreWritten}
use Rattle.openurl_reading.proofs.Settled.{settled_stays}
use Rattle.openurl_reading.proofs.laws.canonical_requests_stay.Goals as goal

pub returns-clause-steps : goal.returns-clause-steps
returns-clause-steps c pairs is =
    let missing = is.no_other_keys in
    let written : AreWritten = record { stay = c.plain_texts_stay.ensures.number; short = c.texts_are_bounded.ensures } in
    settled_stays pairs (kept_settled pairs record {
      context = is.context;
      transport = is.transport;
      encoding = is.encoding;
      no_old_keys = is.no_old_keys;
      no_number = missing 6 [] (lit< tt);
      no_identifier = missing 7 [] (lit< tt);
      no_core = is.no_core;
      no_title = missing 5 [] (lit< tt);
      format = is.format;
      no_source = missing 0 [] (lit< tt);
      no_date = missing 1 [] (lit< tt);
      no_old_year = missing 2 [] (lit< tt);
      no_year = missing 3 [] (lit< tt);
      no_eisbn = missing 4 [] (lit< tt);
      titles = is.titles;
      journals = is.journals;
      other_texts = is.other_texts;
      issns = λ k d h. let one = is.issns k d h in issn_kept written c.issns_stay.ensures _ one.0 one.1;
      eissns = λ k d h. let one = is.eissns k d h in issn_kept written c.issns_stay.ensures _ one.0 one.1;
      isbns = λ k d h. isbn_kept written c.isbns_stay.ensures _ (is.isbns k d h);
      dates = λ k d h. date_kept written c.dates_stay.ensures _ (is.dates k d h);
      volumes = is.volumes;
      issues = is.issues;
      spages = is.spages;
      epages = is.epages;
      pages = is.pages;
      identified = is.identified;
      works = canonical_named
          (identified c.identifiers_are_identifiers.ensures.named c.identifiers_are_identifiers.ensures.alone c.identifiers_stay.ensures.named
          c.uris_have_one_namespace.ensures c.preprints_have_dois.ensures.doi c.preprints_have_dois.ensures.uri
          c.dois_in_addresses_are_dois.ensures.are c.identifiers_are_identifiers.ensures.mentioned)
          pairs is.referents is.no_other_identifiers;
    })

pub returns-clause-reading : goal.returns-clause-reading
returns-clause-reading c pairs is all =
    ap (λ counted. with_derived (normal_form counted)) all ∙ ap with_derived (returns-clause-steps c pairs is)
