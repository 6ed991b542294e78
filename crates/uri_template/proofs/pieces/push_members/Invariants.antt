use Rattle.std.proofs.Common.{◌≡◌, ◌==◌, ◌++◌, [], drop, map, string_bytes}
use Rattle.target_vars.specs.Members.{members_left}
use Rattle.uri_template.specs.Expansion.{joined_by}
use Rattle.uri_template.specs.Private.Pieces.{member_text, member_sep, pieces_from}
use Rattle.uri_template.proofs.pieces.push_members.Given as goal

-- what has been appended, with the members that are left, is the whole
abbrev pub invariant-loop-i : goal.invariant-loop-i
invariant-loop-i l =
    string_bytes l.out ++ pieces_from [] (member_sep l.style l.spec.explode) (l.i == 0)
    (map (member_text l.style l.spec.name l.spec.explode) (drop l.i (members_left l.members)))
    ≡ string_bytes l.fn.out ++ joined_by (member_sep l.style l.spec.explode) (map (member_text l.style l.spec.name l.spec.explode) (members_left l.members))
