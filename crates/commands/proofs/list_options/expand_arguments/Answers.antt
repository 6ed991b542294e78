use Rattle.std.proofs.Common.{[], sym, ◌∙◌, arith}
use Rattle.commands.proofs.ArgumentLemmas.{no_options, next_option, no_arguments, two_left}
use Rattle.commands.proofs.list_options.expand_arguments.Goals as goal

pub loop-rest-init : goal.loop-rest-init
loop-rest-init c = no_options c.args.arguments.now

pub loop-rest-preserved : goal.loop-rest-preserved
loop-rest-preserved c = next_option _ _ _ c.loop-rest.invariant (sym c.begins_with_option.ensures ∙ c.loop-rest-test.true) c.after_option-rest.ensures

pub returns-clause-some : goal.returns-clause-some
returns-clause-some c =
    two_left _ c.loop-rest.rest.now _ (record { ref_ptr = (0, 0); now = [] }) c.loop-rest.invariant (omega arith) (omega arith)
    (sym c.begins_with_option.ensures ∙ c.loop-rest-test.false) c.split_at.ensures.front

pub returns-then-rest-ne2-clause-none : goal.returns-then-rest-ne2-clause-none
returns-then-rest-ne2-clause-none c =
    no_arguments _ c.loop-rest.rest.now c.loop-rest.invariant (sym c.begins_with_option.ensures ∙ c.loop-rest-test.false) (λ two. omega (arith, two))
