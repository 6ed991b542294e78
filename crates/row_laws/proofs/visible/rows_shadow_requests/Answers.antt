use Rattle.row_laws.proofs.ShadowedPairs.{entries_are, look_up_is}
use Rattle.row_laws.proofs.visible.rows_shadow_requests.Goals as goal

pub returns-clause-entries : goal.returns-clause-entries
returns-clause-entries c = entries_are

pub returns-clause-look_up : goal.returns-clause-look_up
returns-clause-look_up c = look_up_is
