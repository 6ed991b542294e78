-- The first space ends the first token, and the next one the second.
use Rattle.std.proofs.Common.{Some, None, lit<}
use Rattle.std.proofs.lemmas.Str.Pattern.{split_parts}
use Rattle.rule_parser.proofs.TokenLemmas.{token_from_index}
use Rattle.rule_parser.proofs.GuardLemmas.{no_guard_in_token}
use Rattle.rule_parser.proofs.guard.guard.Goals as goal

pub returns-in_default : goal.returns-in_default
returns-in_default c = no_guard_in_token _ (token_from_index _ (split_parts 32 _ None c.in_default.ensures.cases (lit< tt)))

pub defined-requires-clause-verb : goal.defined-requires-clause-verb
defined-requires-clause-verb c = token_from_index _ (split_parts 32 _ (Some (c.in-Some.first, c.in-Some.rest)) c.in-Some.ensures.cases (lit< tt)).1

pub defined-requires-clause-name : goal.defined-requires-clause-name
defined-requires-clause-name c = token_from_index _ (split_parts 32 _ None c.in-None.ensures.cases (lit< tt))

pub compared-requires-clause-name : goal.compared-requires-clause-name
compared-requires-clause-name c = token_from_index _ (split_parts 32 _ (Some (c.in-Some.first, c.in-Some.rest)) c.in-Some.ensures.cases (lit< tt)).1

pub compared-requires-clause-verb : goal.compared-requires-clause-verb
compared-requires-clause-verb c =
    token_from_index _ (split_parts 32 _ (Some (c.in-Some-split_once.verb, c.in-Some-split_once.value)) c.in-Some-split_once.ensures.cases (lit< tt)).1

pub returns-in-Some-split_once : goal.returns-in-Some-split_once
returns-in-Some-split_once c =
    let first = split_parts 32 c.args.tokens.now (Some (c.in-Some.first, c.in-Some.rest)) c.in-Some.ensures.cases (lit< tt) in
    let second = split_parts 32 c.in-Some.rest.now (Some (c.in-Some-split_once.verb, c.in-Some-split_once.value)) c.in-Some-split_once.ensures.cases
    (lit< tt) in
    rw (first.0, second.0) c.compared.ensures
