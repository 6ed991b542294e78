use Rattle.reply_laws.proofs.OneReply.{LawsOfRoutes}
use Rattle.reply_laws.proofs.ServedFiles.{gets, page_served, read_all}
use Rattle.reply_laws.proofs.served_files.files_decide_the_page.Goals as goal

pub returns-clause-read : goal.returns-clause-read
returns-clause-read c = λ disk keys registry targets files held lines. read_all disk keys held.rows files targets lines held.held

pub returns-clause-served : goal.returns-clause-served
returns-clause-served c = gets

pub returns-clause-page : goal.returns-clause-page
returns-clause-page c = λ disk keys registry targets files by_rules sent query page without_body status reply held lines of_files.
    let laws : LawsOfRoutes = record {
      one_route = c.one_route.ensures;
      ignored = c.what_follows_a_head_is_ignored.ensures;
      ends = c.a_head_ends_where_it_is_closed.ensures;
    } in
    page_served laws c.compiled_files_have_one_reply.ensures.page files targets by_rules sent query page without_body status reply
    (read_all disk keys held.rows files targets lines held.held) of_files
