use Rattle.std.proofs.Common.{◌≡◌}
use Rattle.compiler_model.specs.Compiled.{code_of}
use Rattle.compiler_model.specs.Answer.{answer}
use Rattle.rule_parser.specs.Meaning.{meaning}
use Rattle.end_to_end.proofs.Written.{read_means}
use Rattle.end_to_end.proofs.laws.files_of_rules_are_accepted.Goals as goal

pub returns-clause-accepted : goal.returns-clause-accepted
returns-clause-accepted c = λ rules bytes sound file.
    let form = c.compiled_code_is_accepted.ensures.form rules sound in
    let typable = c.compiled_code_is_accepted.ensures.kinds rules sound in
    record {
      is_file = file;
      accepted = record {
        is_code = file.is_code;
        form = form;
        typable = typable;
        file = c.compiled_code_is_accepted.ensures.file rules sound;
        safe = c.compiled_code_is_accepted.ensures.safe rules sound;
      };
      no_fault = c.accepted_file_has_no_fault.ensures bytes (code_of rules) file form typable;
    }

pub returns-clause-means : goal.returns-clause-means
returns-clause-means c = λ rules bytes read v o sound file spelled.
    read_means c.file_has_one_code.ensures bytes (code_of rules) read v o (answer (meaning rules v) ≡ o) file
    (c.code_gives_what_rules_mean.ensures rules sound v o) spelled
