use Rattle.std.proofs.Common.{◌≡◌, chars, sym, ◌∙◌, map-id}
use Rattle.std.proofs.lemmas.Iterator.{YieldsList-from_chars}
use Rattle.std.proofs.lemmas.Iterator.Consumers.{YieldsList-end}
use Rattle.files.proofs.printed_path.write_path.Goals as goal

-- all characters are written
pub returns : goal.returns
returns g c plain done =
    let yields = YieldsList-from_chars c.args.path.now c.utf8.path cc in
    let end = YieldsList-end yields c.loop-c.yielded _ c.loop-c.yielded_by _ _ c.in-None.is c.next.ensures.steps in
    let all : c.loop-c.yielded ≡ chars c.args.path.now = sym (map-id c.loop-c.yielded) ∙ end.0 in
    rw all at (c.loop-c.invariant plain)
