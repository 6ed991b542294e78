use Rattle.source_requests.proofs.Queries.{read_once}
use Rattle.source_requests.proofs.laws.queries_are_read_once.Goals as goal

pub returns : goal.returns
returns c =
    read_once c.forms_are_read_back.ensures c.utf8_queries_stay.ensures.forms c.known_keys_are_in_small_letters.ensures
    c.readings_name_their_encoding.ensures c.readings_are_read_as_they_are.ensures.reading
