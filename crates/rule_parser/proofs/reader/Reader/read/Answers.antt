-- A line with an unknown first token is not that of a statement.
use Rattle.std.proofs.Common.{sym, ◌∙◌, ap, codes}
use Rattle.std.specs.Str.{bytes_eq}
use Rattle.std.proofs.lemmas.Bool.{both_ways}
use Rattle.rule_parser.specs.Faults.{no_statement}
use Rattle.rule_parser.proofs.ReaderLemmas.{no_other, line_faulty}
use Rattle.rule_parser.proofs.reader.Reader.read.Goals as goal

pub returns-clause-err : goal.returns-clause-err
returns-clause-err c =
    line_faulty c.args.self.now _ _ _ _ c.new.ensures
    (no_statement _ _
    (no_other _ (λ e. both_ways _ (sym c.eq.ensures ∙ c.if-eq.false) (ap (λ x. bytes_eq x (codes "rule")) e)) c.in_default.ensures.cases
    c.in_default-strip_prefix.ensures.cases c.in_default-strip_prefix-2.ensures.cases))
