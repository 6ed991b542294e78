use Rattle.menu_laws.proofs.RequestSteps.{steps_bounded, turns_bounded}
use Rattle.menu_laws.proofs.RunSteps.{LawsOfEnds}
use Rattle.menu_laws.proofs.work.work_of_a_request_is_bounded.Goals as goal

pub returns : goal.returns
returns c =
    let laws : LawsOfEnds = record {
      ends_with = c.every_run_ends.ensures.ends_with;
      once = c.run_ends_once.ensures;
      few = c.rows_over_requests_are_small.ensures.members;
    } in
    record {
      steps = λ targets pairs known. steps_bounded pairs laws targets known.safe;
      turns = λ targets pairs most known small. turns_bounded pairs laws targets most known.safe small;
    }
