-- A name, a verb and the text after them can be a guard only if the verb is one of four.
use Rattle.std.proofs.lemmas.Bool.{iff_false}
use Rattle.rule_parser.proofs.GuardLemmas.{no_compared_guard}
use Rattle.rule_parser.proofs.guard.compared.Goals as goal

pub returns-then-not-is_name : goal.returns-then-not-is_name
returns-then-not-is_name c =
    let no_name = iff_false c.is_name.ensures c.if-not-is_name.true in
    no_compared_guard _ _ _ c.requires.name c.requires.verb (λ n v t q. no_name n) (λ n v t q. no_name n) (λ n v low high b q. no_name n)
    (λ n v low high b q. no_name n)

pub returns-in_default : goal.returns-in_default
returns-in_default c =
    no_compared_guard _ _ _ c.requires.name c.requires.verb (λ n v t q. c.in_default.not-is v) (λ n v t q. c.in_default.not-holds v)
    (λ n v low high b q. c.in_default.not-from v) (λ n v low high b q. c.in_default.not-counts v)
