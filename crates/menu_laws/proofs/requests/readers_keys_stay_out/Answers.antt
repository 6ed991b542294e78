use Rattle.menu_laws.proofs.SameRows.{LawsOfRuns, same_entry}
use Rattle.menu_laws.proofs.requests.readers_keys_stay_out.Goals as goal

pub returns : goal.returns
returns c = λ target pairs others same ids here there.
    let laws : LawsOfRuns = record {
      shadow = c.rows_shadow_requests.ensures.look_up;
      texts = c.requests_by_keys.ensures.text;
      members = c.requests_by_keys.ensures.members;
      reads = c.code_reads_its_names_alone.ensures;
      decided = c.course_is_decided.ensures.outcome;
      ran = c.fates_are_decided.ensures.ran;
    } in
    same_entry laws target pairs others same ids here there
