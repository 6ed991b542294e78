use Rattle.std.proofs.Common.{ℕ, ◌≤◌, All, subst, arith}
use Rattle.std.proofs.lemmas.List.Elements.{All-weaker}
use Rattle.target_vars.specs.EnvValue.{IsWithin}
use Rattle.row_scope.specs.RequestValues.{RequestValue, AreValues}
use Rattle.row_scope.specs.Private.Kept.{AreEnds}
use Rattle.row_scope.proofs.EndLemmas.{ends_between, few_lengths}
use Rattle.row_scope.proofs.request_values.RequestValues.bytes_of_spans.Goals as goal

pub overflow_sub-result : goal.overflow_sub-result
overflow_sub-result c =
    let summed = subst (λ (v : RequestValue). AreEnds v.values.spans c.self.inside.ends.items) c.self.view_is c.self.invariant.summed in
    let between = ends_between c.args.self.now.values.spans c.self.inside.ends.items c.args.first c.args.count c.index.result.now c.index-2.result.now
    summed c.requires c.index.ensures c.index-2.ensures in
    omega (arith, between)

pub returns-clause-value : goal.returns-clause-value
returns-clause-value c =
    let summed = subst (λ (v : RequestValue). AreEnds v.values.spans c.self.inside.ends.items) c.self.view_is c.self.invariant.summed in
    let between = ends_between c.args.self.now.values.spans c.self.inside.ends.items c.args.first c.args.count c.index.result.now c.index-2.result.now
    summed c.requires c.index.ensures c.index-2.ensures in
    omega (arith, between)

pub returns-clause-small : goal.returns-clause-small
returns-clause-small c =
    let values = c.args.self.now.values in
    let summed = subst (λ (v : RequestValue). AreEnds v.values.spans c.self.inside.ends.items) c.self.view_is c.self.invariant.summed in
    let between = ends_between values.spans c.self.inside.ends.items c.args.first c.args.count c.index.result.now c.index-2.result.now
    summed c.requires c.index.ensures c.index-2.ensures in
    let known : AreValues c.args.self.now = subst AreValues c.self.view_is c.self.invariant.values in
    let short = known.short in
    let few = known.few in
    let within = c.requires in
    let each : All (λ (at : ℕ × ℕ). at.1 ≤ 1048576) values.spans =
    All-weaker (IsWithin values) (λ (at : ℕ × ℕ). at.1 ≤ 1048576) (λ at w. let inside = w.inside in omega (arith, inside, short)) values.spans known.inside in
    let bytes = few_lengths 1048576 values.spans c.args.first c.args.count within each in
    omega (arith, between, bytes, few, within)
