use Rattle.std.proofs.Common.{rules, Some, None, ◌++◌, ap, ◌∙◌, sym, lit<, string_bytes}
use Rattle.std.proofs.lemmas.Str.Pattern.{split_parts}
use Rattle.menu.specs.Escaping.{apostrophe, apostrophe_reference, escaped}
use Rattle.menu.proofs.Escapes.{apostrophe_parts, none_after_apostrophe, stays_escaped, two_pieces}
use Rattle.menu.proofs.html.push_escaped_part.Goals as goal

pub loop-plain-preserved : goal.loop-plain-preserved
loop-plain-preserved c =
    let cut = split_parts apostrophe c.loop-plain.rest.now (Some (c.in-Some.plain, c.in-Some.after)) c.in-Some.ensures.cases (lit< tt) in (
      search rules,
      two_pieces _ (string_bytes c.loop-plain.out) _ c.in-Some.plain.now apostrophe_reference (escaped c.in-Some.after.now) _ _
          c.loop-plain.invariant.1 (apostrophe_parts c.loop-plain.rest.now c.in-Some.plain.now c.in-Some.after.now c.loop-plain.invariant.2 cut.0 cut.1)
          c.in_ok-push_str.ensures.bytes c.in_ok-push_str-2.ensures.bytes,
      none_after_apostrophe c.loop-plain.rest.now c.in-Some.plain.now c.in-Some.after.now c.loop-plain.invariant.2 cut.0,
    )

pub returns : goal.returns
returns c =
    let none = split_parts apostrophe c.loop-plain.rest.now None c.in_default.ensures.cases (lit< tt) in
    let stays = stays_escaped c.loop-plain.rest.now c.loop-plain.invariant.2 none in
    let whole = ap (λ x. string_bytes c.loop-plain.out ++ x) (sym stays) ∙ c.loop-plain.invariant.1 in
    search (rules, whole)
