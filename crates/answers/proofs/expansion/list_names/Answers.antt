use Rattle.std.proofs.Common.{[]}
use Rattle.answers.proofs.OptionLemmas.{one_more_name}
use Rattle.answers.proofs.expansion.list_names.Goals as goal

pub loop-rest-preserved : goal.loop-rest-preserved
loop-rest-preserved c =
    one_more_name c.args.options.now c.loop-rest.names.items c.push.new.self.items c.loop-rest.rest.now (record { ref_ptr = (0, 0); now = [] })
    c.in-len2-up.len_at_least c.loop-rest.invariant c.in_ok-push.ensures.items
