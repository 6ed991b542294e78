use Rattle.std.proofs.Common.{Some, string_bytes, ap, ◌∙◌, subst, arith}
use Rattle.std.proofs.lemmas.Option.{slice_get_within}
use Rattle.std.proofs.lemmas.Grind.{common_steps}
use Rattle.target_vars.specs.EnvValue.{EnvValue, AreMembersAt}
use Rattle.target_vars.specs.Layout.{AreAdjacent}
use Rattle.target_vars.proofs.Laid.{place_read, no_members-at, no_members-lacking, members_at}
use Rattle.target_vars.proofs.env.Env.run.Goals as goal

pub returns-in_default-clause-value : goal.returns-in_default-clause-value
returns-in_default-clause-value c =
    let r = c.self.inside in
    subst (λ (v : EnvValue). AreMembersAt v c.args.name.now 0 0) c.self.view_is
    (no_members-lacking (string_bytes r.buffer) r.spans.items r.names.listed r.places.items c.args.name.now c.self.invariant c.in_default.ensures.lacks)

pub index-requires : goal.index-requires
index-requires c = omega (arith, slice_get_within c.self.inside.names.listed c.in-Ok.number c.args.name.now c.in-Ok.ensures, c.self.invariant.one_each)

pub returns-in-One-clause-value : goal.returns-in-One-clause-value
returns-in-One-clause-value c =
    let r = c.self.inside in
    let placed = place_read r.names.listed r.places.items c.args.name.now c.in-Ok.number c.index.result.now c.self.invariant.one_each c.in-Ok.ensures
    c.index.ensures ∙ ap Some c.in-One.is in
    subst (λ (v : EnvValue). AreMembersAt v c.args.name.now 0 0) c.self.view_is
    (no_members-at (string_bytes r.buffer) r.spans.items r.names.listed r.places.items c.args.name.now c.in-Ok.number c.in-One.field-0 c.self.invariant
    c.in-Ok.ensures placed)

pub returns-in-Many-clause-value : goal.returns-in-Many-clause-value
returns-in-Many-clause-value c =
    let r = c.self.inside in
    let placed = place_read r.names.listed r.places.items c.args.name.now c.in-Ok.number c.index.result.now c.self.invariant.one_each c.in-Ok.ensures
    c.index.ensures ∙ ap Some c.in-Many.is in
    let run : AreAdjacent r.spans.items c.in-Ok.number c.run_of.result.0 c.run_of.result.1 = grind (arith, common_steps) in
    subst (λ (v : EnvValue). AreMembersAt v c.args.name.now c.run_of.result.0 c.run_of.result.1) c.self.view_is
    (members_at (string_bytes r.buffer) r.spans.items r.names.listed r.places.items c.args.name.now c.in-Ok.number c.run_of.result.0 c.run_of.result.1
    c.self.invariant c.in-Ok.ensures placed run)
