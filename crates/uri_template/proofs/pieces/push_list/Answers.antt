use Rattle.std.proofs.Common.{◌≡◌, subst, string_bytes}
use Rattle.std.specs.Prelude.{OnOk, List, ℕ}
use Rattle.target_vars.specs.Members.{members_left}
use Rattle.uri_template.proofs.Led.{list_written}
use Rattle.uri_template.proofs.pieces.push_list.Goals as goal

pub returns : goal.returns
returns c =
    let members = members_left c.args.members.now in
    let whole = list_written (string_bytes c.args.out.now) (string_bytes c.push_str.new.self) (string_bytes c.push_head.new.out) c.args.lead.now
    c.args.style.now c.args.spec.now.name c.args.spec.now.explode members c.in_ok-push_str.ensures.bytes c.in_ok-push_head.ensures in
    subst (λ (x : List ℕ). OnOk c.push_members.result (string_bytes c.push_members.new.out ≡ x)) whole c.push_members.ensures
