use Rattle.std.proofs.Common.{◌++◌, ap, map, string_bytes}
use Rattle.target_vars.specs.Members.{members_left}
use Rattle.uri_template.specs.Private.Pieces.{member_text, member_sep}
use Rattle.uri_template.proofs.Led.{pieces_from-joined}
use Rattle.uri_template.proofs.pieces.push_members.Goals as goal

pub loop-i-init : goal.loop-i-init
loop-i-init c =
    ap (λ x. string_bytes c.args.out.now ++ x)
    (pieces_from-joined (member_sep c.args.style.now c.args.spec.now.explode)
    (map (member_text c.args.style.now c.args.spec.now.name c.args.spec.now.explode) (members_left c.args.members.now)))
