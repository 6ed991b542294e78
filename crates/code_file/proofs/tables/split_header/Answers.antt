use Rattle.std.proofs.Common.{arith, ◌++◌, List, ℕ, sym, ap, ◌∙◌, subst}
use Rattle.std.proofs.lemmas.Grind.{common_steps}
use Rattle.code_file.specs.Grammar.{magic, number}
use Rattle.code_file.specs.Fault.{IsFieldFault, bad_magic, no_counts, bad_counts}
use Rattle.code_file.proofs.tables.split_header.Goals as goal

pub returns-in_default-clause-fault : goal.returns-in_default-clause-fault
returns-in_default-clause-fault c = subst (IsFieldFault c.args.bytes.now) (sym c.at.ensures) (bad_magic c.in_default.ensures.none)

pub returns-then-rest-lt6-clause-fault : goal.returns-then-rest-lt6-clause-fault
returns-then-rest-lt6-clause-fault c =
    subst (IsFieldFault c.args.bytes.now) (sym c.cut_short.ensures)
    (no_counts
    (grind (arith, common_steps))
    c.if-rest-lt6.true)

pub returns-in-Some-fault-clause-fault : goal.returns-in-Some-fault-clause-fault
returns-in-Some-fault-clause-fault c =
    bad_counts
    (record {
      header = record {
        version = c.in-Some.version;
        names = c.split_number-names.result.0;
        literals = c.split_number-literals.result.0;
        instrs = c.split_number-instrs.result.0;
      };
      rest = c.split_number-instrs.result.1.now;
      numbers = record {
        version = c.in-Some.ensures.some.0;
        names = c.split_number-names.ensures.small;
        literals = c.split_number-literals.ensures.small;
        instrs = c.split_number-instrs.ensures.small;
      };
      spells =
          c.in-Some.ensures.some.1
          ∙ ap (λ (t : List ℕ). magic c.in-Some.version ++ t)
          (c.split_number-names.ensures.spells
          ∙ ap (λ (t : List ℕ). number c.split_number-names.result.0 ++ t)
          (c.split_number-literals.ensures.spells
          ∙ ap (λ (t : List ℕ). number c.split_number-literals.result.0 ++ t) c.split_number-instrs.ensures.spells));
    })
    c.in-Some-fault.e (sym c.fault.ensures ∙ c.in-Some-fault.is)
