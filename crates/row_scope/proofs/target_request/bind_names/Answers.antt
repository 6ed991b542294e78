use Rattle.std.proofs.Common.{◌≡◌, ◌<◌, ◌∷◌, [], slice_get, length, refl, subst, sym, ap, ◌∙◌, arith, length-append}
use Rattle.std.proofs.Math.Logic.{⊎_elim}
use Rattle.std.proofs.lemmas.Option.{slice_get_read}
use Rattle.text_model.specs.Texts.{Text}
use Rattle.text_model.proofs.Lists.{slice_get-push}
use Rattle.environment_model.specs.Lists.{is_list}
use Rattle.code_model.specs.Code.{Name}
use Rattle.machine_model.specs.Operands.{name_at, text_of_name}
use Rattle.row_laws.specs.Shadowing.{requested}
use Rattle.row_scope.specs.Bindings.{IsBound, laid_in}
use Rattle.row_scope.specs.RowEnvironments.{lists_of}
use Rattle.row_scope.specs.RowValue.{KnownValue}
use Rattle.row_scope.proofs.OverLemmas.{name_at_is}
use Rattle.row_scope.proofs.target_request.bind_names.Goals as goal

pub loop-i-preserved : goal.loop-i-preserved
loop-i-preserved c =
    let code = c.args.code.now in
    let lists = lists_of code in
    let env = λ (known : KnownValue). laid_in known.request.values (requested lists known.request.pairs) in
    let inv = c.loop-i.invariant in
    let so_far = c.loop-i.bindings.items in
    let new = c.binding.result in
    let n = c.loop-i.i in
    let text : c.as_str-name.result.now ≡ name_at code n =
    c.as_str-name.ensures.value ∙ ap (λ (x : Name). x.text) c.behind-code.view_is ∙ sym (ap text_of_name c.name.ensures) in
    let marks = c.args.names.now.marks.items in
    let mark = c.index-in-loop-i.result.now in
    let within : n < length marks = omega (arith, c.loop-i-test.true, ap length c.names-count.ensures, c.requires.marks.one_each) in
    let marked : mark ≡ is_list lists c.as_str-name.result.now =
    c.requires.marks.are n mark (slice_get_read marks (length marks) n mark refl within c.index-in-loop-i.ensures) ∙ sym (ap (is_list lists) text) in
    let bound : IsBound (env c.args.known.now) c.as_str-name.result.now new =
    subst (λ (known : KnownValue). IsBound (env known) c.as_str-name.result.now new) inv.same (c.binding.ensures.bound lists marked) in
    record {
      one_each = omega (arith, ap length c.push_reserved.ensures.items, length-append so_far (new ∷ []), inv.one_each);
      room = omega (arith, c.push_reserved.ensures.capacity, inv.room);
      same = c.binding.ensures.same ∙ inv.same;
      bound = λ i name b named is.
          ⊎_elim (λ old. inv.bound i name b named old)
          (λ last.
          let same : c.as_str-name.result.now ≡ name = text ∙ ap (name_at code) (sym (last.0 ∙ inv.one_each)) ∙ name_at_is code i name named in
          subst (λ (key : Text). IsBound (env c.args.known.now) key b) same
          (subst (IsBound (env c.args.known.now) c.as_str-name.result.now) last.1 bound))
          (slice_get-push so_far new i b (ap (λ xs. slice_get xs i) (sym c.push_reserved.ensures.items) ∙ is));
    }
