use Rattle.std.proofs.Common.{ap, sym, ◌∙◌}
use Rattle.text_model.specs.Texts.{texts_of}
use Rattle.work_identifiers.specs.Places as spec
use Rattle.work_identifiers.proofs.Finding.{push_found, push_none}
use Rattle.work_identifiers.proofs.places.push_after.Goals as goal
use Rattle.work_identifiers.proofs.places.push_after.Goals.{in-Some+in_ok-push, in_default}

pub loop-beginning-preserved : goal.loop-beginning-preserved
loop-beginning-preserved c =
    let find = spec.after c.args.text.now in
    let found = c.loop-beginning.rests.items in
    elim c.match-after.branch [
      | in-Some+in_ok-push w ↦
          push_found find c.args.beginnings.now c.loop-beginning.beginning-index _ (texts_of c.args.rests.now.items) found c.match-after.rests.items
          w.in-Some.rest c.loop-beginning-test.true (sym w.in-Some.ensures) (ap (λ v. v.items) w.rests-is ∙ w.in_ok-push.ensures.items)
          c.loop-beginning.invariant
      | in_default w ↦
          push_none find c.args.beginnings.now c.loop-beginning.beginning-index _ (texts_of c.args.rests.now.items) found c.match-after.rests.items
          c.loop-beginning-test.true (sym w.in_default.ensures) (ap (λ v. v.items) w.rests-is) c.loop-beginning.invariant
    ]
