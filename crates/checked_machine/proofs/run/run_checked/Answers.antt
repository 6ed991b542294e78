use Rattle.std.proofs.Common.{◌≡◌, Ok, sym, ap, ◌∙◌, subst, string_bytes, arith}
use Rattle.machine_model.specs.States.{Running}
use Rattle.machine_model.specs.Runs.{After, HasOutcome, Link, NoLink, Stuck}
use Rattle.machine_model.specs.Next.{step_limit}
use Rattle.checked_machine.specs.Private.Frames.{frame_of, stepped}
use Rattle.checked_machine.proofs.Outcomes.{at_start, one_more, ends_with_link, ends_with_no_link, gets_stuck, is_stuck_last, the_only}
use Rattle.checked_machine.proofs.run.run_checked.Goals as goal

pub loop-steps-init : goal.loop-steps-init
loop-steps-init c =
    subst (λ s. After c.args.code.now c.args.env.now.entries 0 (Running s)) (sym c.start-frame.ensures) (at_start c.args.code.now c.args.env.now.entries)

pub loop-steps-preserved : goal.loop-steps-preserved
loop-steps-preserved c =
    one_more c.step_is_decided.ensures c.args.code.now c.args.env.now.entries c.loop-steps._steps (frame_of c.loop-steps.frame)
    (Running (frame_of c.step.new.self)) c.loop-steps.invariant
    (sym c.in_ok-step.ensures.next ∙ ap (stepped c.step.new.self) c.in-Onward.is)

pub returns-in-Link : goal.returns-in-Link
returns-in-Link c =
    let t = string_bytes c.step.new.self.output in
    the_only c.course_is_decided.ensures.course c.args.code.now c.args.env.now.entries (Link t)
    (ends_with_link c.step_is_decided.ensures c.args.code.now c.args.env.now.entries c.loop-steps._steps (frame_of c.loop-steps.frame) c.loop-steps.invariant t
    (sym c.in_ok-step.ensures.next ∙ ap (stepped c.step.new.self) c.in-Link.is))

pub returns-in-NoLink : goal.returns-in-NoLink
returns-in-NoLink c =
    the_only c.course_is_decided.ensures.course c.args.code.now c.args.env.now.entries NoLink
    (ends_with_no_link c.step_is_decided.ensures c.args.code.now c.args.env.now.entries c.loop-steps._steps (frame_of c.loop-steps.frame) c.loop-steps.invariant
    (sym c.in_ok-step.ensures.next ∙ ap (stepped c.step.new.self) c.in-NoLink.is))

pub returns-in-Stuck : goal.returns-in-Stuck
returns-in-Stuck c =
    let here = c.in_ok-step.ensures.stuck c.in-Stuck.place (ap Ok c.in-Stuck.is) in
    the_only c.course_is_decided.ensures.course c.args.code.now c.args.env.now.entries (Stuck c.in-Stuck.place)
    (subst (λ p. HasOutcome c.args.code.now c.args.env.now.entries (Stuck p)) (sym here)
    (gets_stuck c.step_is_decided.ensures c.args.code.now c.args.env.now.entries c.loop-steps._steps (frame_of c.loop-steps.frame) c.loop-steps.invariant
    (sym c.in_ok-step.ensures.next ∙ ap (stepped c.step.new.self) c.in-Stuck.is)))

pub returns : goal.returns
returns c =
    let last : c.loop-steps._steps ≡ step_limit c.args.code.now c.args.env.now.entries = omega (arith, c.step_limit-steps-end.ensures) in
    the_only c.course_is_decided.ensures.course c.args.code.now c.args.env.now.entries (Stuck c.loop-steps.frame.place)
    (is_stuck_last c.step_is_decided.ensures c.args.code.now c.args.env.now.entries (frame_of c.loop-steps.frame)
    (c.every_run_ends.ensures.in_time c.args.code.now c.args.env.now.entries)
    (subst (λ k. After c.args.code.now c.args.env.now.entries k (Running (frame_of c.loop-steps.frame))) last c.loop-steps.invariant))
