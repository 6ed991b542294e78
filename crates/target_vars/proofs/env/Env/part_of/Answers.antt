use Rattle.std.proofs.Common.{Some, string_bytes, sym, ap, ◌∙◌, subst, arith}
use Rattle.std.proofs.lemmas.Option.{slice_get_within}
use Rattle.environment_model.specs.Environment.{text_of}
use Rattle.target_vars.specs.EnvValue.{EnvValue}
use Rattle.target_vars.specs.Layout.{IsTextPart}
use Rattle.target_vars.proofs.Laid.{look_up-lacking, place_read, text_part, no_text-at}
use Rattle.target_vars.proofs.env.Env.part_of.Goals as goal

pub returns-in_default : goal.returns-in_default
returns-in_default c = grind (arith, look_up-lacking, string_bytes, c.self.invariant, c.in_default.ensures.lacks)

pub index-requires : goal.index-requires
index-requires c = omega (arith, slice_get_within c.self.inside.names.listed c.in-Ok.number c.args.name.now c.in-Ok.ensures, c.self.invariant.one_each)

pub returns-in-One : goal.returns-in-One
returns-in-One c =
    let r = c.self.inside in
    let placed = place_read r.names.listed r.places.items c.args.name.now c.in-Ok.number c.index.result.now c.self.invariant.one_each c.in-Ok.ensures
    c.index.ensures ∙ ap Some c.in-One.is in
    subst (λ (v : EnvValue). IsTextPart v c.args.name.now c.in-One.part) c.self.view_is
    (text_part (string_bytes r.buffer) r.spans.items r.names.listed r.places.items c.args.name.now c.in-Ok.number c.in-One.part c.self.invariant
    c.in-Ok.ensures placed)

pub returns-in-Many : goal.returns-in-Many
returns-in-Many c =
    let r = c.self.inside in
    let placed = place_read r.names.listed r.places.items c.args.name.now c.in-Ok.number c.index.result.now c.self.invariant.one_each c.in-Ok.ensures
    c.index.ensures ∙ ap Some c.in-Many.is in
    ap (λ (v : EnvValue). text_of v.entries c.args.name.now) (sym c.self.view_is) ∙ no_text-at (string_bytes r.buffer) r.spans.items r.names.listed
    r.places.items c.args.name.now c.in-Ok.number c.self.invariant c.in-Ok.ensures placed
