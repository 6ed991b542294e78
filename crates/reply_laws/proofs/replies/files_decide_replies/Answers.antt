use Rattle.reply_laws.proofs.OneReply.{LawsOfRoutes}
use Rattle.reply_laws.proofs.RegistryLines.{loaded, some_rules}
use Rattle.reply_laws.proofs.WrittenReplies.{all_by_rules, one_reply_by_rules}
use Rattle.registry.specs.Entries.{menu_of}
use Rattle.reply_laws.proofs.replies.files_decide_replies.Goals as goal

pub returns-clause-rules : goal.returns-clause-rules
returns-clause-rules c = some_rules

pub returns-clause-read : goal.returns-clause-read
returns-clause-read c = loaded

pub returns-clause-written : goal.returns-clause-written
returns-clause-written c = λ disk keys path bytes targets files by_rules wait first last before after end sent written is_registry of_files gives held.
    let laws : LawsOfRoutes = record {
      one_route = c.one_route.ensures;
      ignored = c.what_follows_a_head_is_ignored.ensures;
      ends = c.a_head_ends_where_it_is_closed.ensures;
    } in
    let read = loaded disk keys path bytes targets files is_registry gives held in
    all_by_rules laws c.replies_follow_menus.ensures by_rules (menu_of targets)
    (λ pairs. c.compiled_files_have_one_menu.ensures.meant files targets by_rules pairs read of_files) wait first
    last before after end sent written

pub returns-clause-one : goal.returns-clause-one
returns-clause-one c = one_reply_by_rules c.one_route.ensures
