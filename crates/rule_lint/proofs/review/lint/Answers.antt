-- The starts of searches are those of the names that are kept with them.
use Rattle.std.proofs.Common.{subst}
use Rattle.text_model.specs.Texts.{texts_of}
use Rattle.rule_lint.specs.Private.Starts.{AreSearchStarts}
use Rattle.rule_lint.proofs.review.lint.Goals as goal

pub invariant_of-target-clause-starts_of_lists : goal.invariant_of-target-clause-starts_of_lists
invariant_of-target-clause-starts_of_lists c =
    subst (λ names. AreSearchStarts c.multiplier_of-multiplier.result c.in_ok-starts_of.field-0 (texts_of names))
    c.deref.ensures.value c.in_ok-starts_of.ensures

pub invariant_of-target-clause-starts_of_columns : goal.invariant_of-target-clause-starts_of_columns
invariant_of-target-clause-starts_of_columns c =
    subst (λ names. AreSearchStarts c.multiplier_of-multiplier.result c.in_ok-starts_of-2.field-0 (texts_of names)) c.deref-2.ensures.value
    c.in_ok-starts_of-2.ensures
