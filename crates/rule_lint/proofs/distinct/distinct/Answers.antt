use Rattle.std.proofs.Common.{Bor, [], ◌∷◌, ◌++◌, cond, ◌∙◌, ap, get_or, sym, take}
use Rattle.text_model.specs.Texts.{Text, texts_of}
use Rattle.environment_model.specs.Environment.{is_among}
use Rattle.rule_parser.specs.Names.{each_once}
use Rattle.rule_lint.proofs.NameSteps.{among_more, once_more, texts_more}
use Rattle.rule_lint.proofs.distinct.distinct.Goals as goal

pub loop-name-preserved : goal.loop-name-preserved
loop-name-preserved c =
    let names = c.args.names.now in
    let none : Bor Text = record { ref_ptr = (0, 0); now = [] } in
    let name = get_or names c.loop-name.name-index none in
    let before = texts_of (take c.loop-name.name-index names) in
    let inv = c.loop-name.invariant in
    let more = sym (texts_more names c.loop-name.name-index none c.loop-name-test.true) in
    let added = ap (λ is_new. texts_of c.loop-name.found.items ++ cond is_new (name.now ∷ []) []) c.in_ok-is_new.ensures.added in
    record {
      seen = λ other.
          c.in_ok-is_new.ensures.updates.0 other ∙ among_more before name.now other.now _ (inv.seen other) ∙ ap (is_among other.now) more;
      found = c.in_ok-push_if_new.ensures ∙ added ∙ once_more before _ name.now _ inv.found (inv.seen name) ∙ ap each_once more;
    }
