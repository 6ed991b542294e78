use Rattle.std.proofs.Common.{◌≡◌, ◌≤◌, false, Some, None, length, sym, ap, subst, ◌∙◌, arith}
use Rattle.std.proofs.lemmas.Result.{IfErr-weaker, IfOk-weaker}
use Rattle.std.proofs.Math.Logic.{⊎_elim}
use Rattle.kev_read.specs.Pairs.{pairs_of}
use Rattle.kev_read.specs.Refusal.{refusal, states_other_version}
use Rattle.kev_read.specs.declared.read.TheConstants.{MAX_PAIRS}
use Rattle.source_requests.specs.Requests.{fitting, written}
use Rattle.source_requests.proofs.Accepted.{first_accepted, not_refused}
use Rattle.source_requests.proofs.Fitting.{fitting_few}
use Rattle.source_requests.proofs.requests.request_of.Goals as goal

pub returns-clause-pairs : goal.returns-clause-pairs
returns-clause-pairs c =
    let pairs = c.args.pairs.now in
    let text : c.as_bytes.result.now ≡ written (fitting pairs) =
    c.as_bytes.ensures.value ∙ c.as_str.ensures.value ∙ c.in_ok-text.ensures.form in
    let read : pairs_of c.as_bytes.result.now ≡ fitting pairs =
    ap pairs_of text ∙ c.written_pairs_are_read_back.ensures (fitting pairs) c.in_ok-text.ensures.utf8 in
    IfOk-weaker c.read_kev.result _ _ (λ request is. is ∙ read) c.read_kev.ensures.pairs

pub returns-clause-err : goal.returns-clause-err
returns-clause-err c =
    let pairs = c.args.pairs.now in
    let text : c.as_bytes.result.now ≡ written (fitting pairs) =
    c.as_bytes.ensures.value ∙ c.as_str.ensures.value ∙ c.in_ok-text.ensures.form in
    let read : pairs_of (written (fitting pairs)) ≡ fitting pairs = c.written_pairs_are_read_back.ensures (fitting pairs) c.in_ok-text.ensures.utf8 in
    let few : length (pairs_of (written (fitting pairs))) ≤ MAX_PAIRS =
    subst (λ ps. length ps ≤ MAX_PAIRS) (sym read) (omega (arith, fitting_few pairs, c.requires.few)) in
    let version : states_other_version (pairs_of (written (fitting pairs))) ≡ false =
    ap states_other_version (read ∙ c.fitting_pairs_fit.ensures.first pairs) ∙ first_accepted pairs (length (fitting pairs)) c.requires.version in
    let none : refusal c.as_bytes.result.now ≡ None =
    ap refusal text ∙ not_refused (written (fitting pairs)) (c.fitting_pairs_fit.ensures.short pairs) few version in
    IfErr-weaker c.read_kev.result _ _ (λ e why. ⊎_elim (λ memory. memory) (λ other. let both : None ≡ Some e = sym none ∙ other in cc) why)
    c.read_kev.ensures.refused
