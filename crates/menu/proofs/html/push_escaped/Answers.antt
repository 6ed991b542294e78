use Rattle.std.proofs.Common.{rules, Some, None, string_bytes, lit<}
use Rattle.std.proofs.lemmas.Str.Pattern.{split_parts}
use Rattle.menu.specs.Escaping.{ampersand, ampersand_reference, escaped}
use Rattle.menu.proofs.Escapes.{ampersand_parts, two_pieces}
use Rattle.menu.proofs.html.push_escaped.Goals as goal

pub loop-part-preserved : goal.loop-part-preserved
loop-part-preserved c =
    let cut = split_parts ampersand c.loop-part.rest.now (Some (c.in-Some.part, c.in-Some.after)) c.in-Some.ensures.cases (lit< tt) in (
      search rules,
      two_pieces _ (string_bytes c.loop-part.out) _ (escaped c.in-Some.part.now) ampersand_reference (escaped c.in-Some.after.now) _ _
          c.loop-part.invariant.1 (ampersand_parts c.loop-part.rest.now c.in-Some.part.now c.in-Some.after.now cut.0)
          c.in_ok-push_escaped_part.ensures c.in_ok-push_str.ensures.bytes,
    )

pub push_escaped_part-requires : goal.push_escaped_part-requires
push_escaped_part-requires c =
    (split_parts ampersand c.loop-part.rest.now (Some (c.in-Some.part, c.in-Some.after)) c.in-Some.ensures.cases (lit< tt)).1

pub push_escaped_part-requires-2 : goal.push_escaped_part-requires-2
push_escaped_part-requires-2 c = split_parts ampersand c.loop-part.rest.now None c.in_default.ensures.cases (lit< tt)
