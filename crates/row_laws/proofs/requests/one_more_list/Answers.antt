use Rattle.row_laws.proofs.OneMoreList.{bytes_of_list, members_of_list, known_list}
use Rattle.row_laws.proofs.requests.one_more_list.Goals as goal

pub returns-clause-bytes : goal.returns-clause-bytes
returns-clause-bytes c = λ l lists pairs new. bytes_of_list l lists new pairs

pub returns-clause-members : goal.returns-clause-members
returns-clause-members c = λ l lists pairs new. members_of_list l lists new pairs

pub returns-clause-known : goal.returns-clause-known
returns-clause-known c = known_list
