-- What callers see of the members of a list.
use Rattle.std.specs.Prelude.{List, map}
use Rattle.text_model.specs.Texts.{Text}
use Rattle.target_vars.specs.Layout.{span_bytes}
use Rattle.target_vars.specs.declared.members.Members.{Members}
use Rattle.target_vars.specs.declared.members_iter.MembersIter.{MembersIter}

-- the texts, in their order
abbrev pub members_left : Members → List Text
members_left m = map (span_bytes m.buffer.now) m.spans.now

-- the texts that an iterator has left
abbrev pub iter_members : MembersIter → List Text
iter_members it = members_left it.left
