-- The rows are tried up to the first one with a web link.
use Rattle.kbart_rows.specs.Identifiers.{ids_of, matching_rows}
use Rattle.rule_explanation.specs.Rows.{gives_web_link}
use Rattle.rule_explanation.proofs.LastTried.{all_tried, last_passes, none_after, one_passes}
use Rattle.rule_explanation.proofs.laws.last_row_has_the_web_link.Goals as goal

pub returns-clause-last : goal.returns-clause-last
returns-clause-last c = λ rules table pairs. (
  λ any. let attempt = last_passes (gives_web_link rules table pairs) (matching_rows table (ids_of pairs)) any in
      (attempt.before, attempt.last, attempt.ends, attempt.passes),
  λ w. one_passes (gives_web_link rules table pairs) (matching_rows table (ids_of pairs)) w.0 w.1 w.2 w.3,
)

pub returns-clause-stops : goal.returns-clause-stops
returns-clause-stops c = λ rules table pairs before after row attempt pass.
    none_after (gives_web_link rules table pairs) (matching_rows table (ids_of pairs)) before after row attempt pass

pub returns-clause-all : goal.returns-clause-all
returns-clause-all c = λ rules table pairs none. all_tried (gives_web_link rules table pairs) (matching_rows table (ids_of pairs)) none
