use Rattle.source_requests.proofs.Queries.{canonical_stays}
use Rattle.source_requests.proofs.laws.canonical_queries_stay.Goals as goal

pub returns : goal.returns
returns c =
    canonical_stays c.forms_are_read_back.ensures c.utf8_queries_stay.ensures.forms c.canonical_requests_stay.ensures.reading
    c.known_keys_are_in_small_letters.ensures
