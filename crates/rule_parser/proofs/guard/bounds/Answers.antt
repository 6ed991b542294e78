-- A range is its first token, followed by `to ` and the other bound.
use Rattle.std.proofs.Common.{◌≡◌, Some, None, ◌++◌, codes, lit<}
use Rattle.std.proofs.lemmas.Str.Pattern.{split_parts}
use Rattle.rule_parser.proofs.TokenLemmas.{token_from_index}
use Rattle.rule_parser.proofs.GuardLemmas.{no_bounds_in_token, no_bounds_without_to, no_bounds_without_low, no_bounds_without_high}
use Rattle.rule_parser.proofs.guard.bounds.Goals as goal

pub returns-in_default : goal.returns-in_default
returns-in_default c = no_bounds_in_token _ (token_from_index _ (split_parts 32 _ None c.in_default.ensures.cases (lit< tt)))

pub returns-in_default-strip_prefix : goal.returns-in_default-strip_prefix
returns-in_default-strip_prefix c =
    let cut = split_parts 32 c.args.range.now (Some (c.in-Some.low, c.in-Some.rest)) c.in-Some.ensures.cases (lit< tt) in
    no_bounds_without_to _ _ _ cut.0 (token_from_index _ cut.1) c.in_default-strip_prefix.ensures.cases

pub returns-in_default-2 : goal.returns-in_default-2
returns-in_default-2 c =
    let cut = split_parts 32 c.args.range.now (Some (c.in-Some.low, c.in-Some.rest)) c.in-Some.ensures.cases (lit< tt) in
    no_bounds_without_low _ _ _ cut.0 (token_from_index _ cut.1) (rw c.in_default-2.is at c.in_ok-low.ensures)

pub returns-in_default-3 : goal.returns-in_default-3
returns-in_default-3 c =
    let cut = split_parts 32 c.args.range.now (Some (c.in-Some.low, c.in-Some.rest)) c.in-Some.ensures.cases (lit< tt) in
    let strip = c.in-Some-strip_prefix.ensures.cases in
    let high : c.in-Some.rest.now ≡ codes "to " ++ c.in-Some-strip_prefix.high.now = cc (strip.1.1, strip.2) in
    no_bounds_without_high _ _ _ _ cut.0 high (token_from_index _ cut.1) (rw c.in_default-3.is at c.in_ok-high.ensures)
