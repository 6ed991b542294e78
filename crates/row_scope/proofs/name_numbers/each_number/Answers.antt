use Rattle.std.proofs.Common.{◌≡◌, ℕ, ◌∷◌, ◌++◌, [], List, Option, Some, slice_get, length, take, fold, subst, sym, ap, ◌∙◌, arith}
use Rattle.std.proofs.Common.{length-append}
use Rattle.std.proofs.lemmas.List.Sums.{fold-append}
use Rattle.std.proofs.Math.Logic.{⊎_elim}
use Rattle.std.proofs.lemmas.Option.{slice_get-get_or}
use Rattle.text_model.specs.Texts.{Text}
use Rattle.text_model.proofs.Lists.{slice_get-push}
use Rattle.code_model.specs.Code.{Name}
use Rattle.machine_model.specs.Operands.{name_at, text_of_name}
use Rattle.kbart_rows.specs.NameSets.{NameSetValue}
use Rattle.row_scope.specs.NameNumbers.{IsOwn, with_number}
use Rattle.row_scope.proofs.NumberLemmas.{extended, names_of_code, number_kept, one_more_name}
use Rattle.row_scope.proofs.name_numbers.each_number.Goals as goal

pub loop-name-preserved : goal.loop-name-preserved
loop-name-preserved c =
    let code = c.args.code.now in
    let inv = c.loop-name.invariant in
    let so_far = c.loop-name.numbers.items in
    let before = c.loop-name.numbered.names in
    let now = c.number.new.numbered.names in
    let new = c.in_ok-number.field-0 in
    let n = c.loop-name.name-index in
    let items = c.in_ok-push.ensures.items in
    let there : slice_get code.names n ≡ Some c.name-item.result =
    ap (λ (names : List Name). slice_get names n) (sym c.names-name-items.ensures)
    ∙ slice_get-get_or c.names-name-items.result.now n c.name-item.result c.loop-name-test.true
    ∙ ap Some (sym c.name-item.is) in
    let text : c.as_str.result.now ≡ name_at code n = c.as_str.ensures.value ∙ ap (λ (name : Name). name.text) c.name.view_is ∙ sym (ap text_of_name there) in
    let its : IsOwn now (name_at code n) new = subst (λ (name : Text). IsOwn now name new) text c.in_ok-number.ensures.own in
    let kept = λ (name : Text) (number : Option ℕ) (own : IsOwn before name number).
    subst (λ (names : List Text). IsOwn names name number) (sym c.in_ok-number.ensures.names) (number_kept before c.as_str.result.now name number own) in
    record {
      one_each = omega (arith, ap length items, length-append so_far (new ∷ []), inv.one_each);
      names =
          c.in_ok-number.ensures.names ∙ ap (λ (names : List Text). with_number names c.as_str.result.now) inv.names
          ∙ ap (with_number (fold with_number c.args.numbered.now.names (take n (names_of_code code))))
          (c.as_str.ensures.value ∙ ap (λ (name : Name). name.text) c.name.view_is)
          ∙ sym (fold-append with_number c.args.numbered.now.names (take n (names_of_code code)) (c.name-item.result.text ∷ []))
          ∙ sym (ap (fold with_number c.args.numbered.now.names) (one_more_name code n c.name-item.result there));
      keys = c.in_ok-number.ensures.keys ∙ inv.keys;
      own = λ i number is.
          ⊎_elim
          (λ old. kept (name_at code i) number (inv.own i number old))
          (λ last.
          let here : i ≡ n = last.0 ∙ inv.one_each in
          subst (λ k. IsOwn now (name_at code k) number) (sym here) (subst (IsOwn now (name_at code n)) last.1 its))
          (slice_get-push so_far new i number (ap (λ (xs : List (Option ℕ)). slice_get xs i) (sym items) ∙ is));
    }

pub returns-in_err-number-clause-after : goal.returns-in_err-number-clause-after
returns-in_err-number-clause-after c =
    let so_far = take c.loop-name.name-index (names_of_code c.args.code.now) in
    extended c.args.numbered.now.names so_far c.number.new.numbered.names
    (ap (λ (set : NameSetValue). set.names) c.in_err-number.ensures.err ∙ c.loop-name.invariant.names)

pub returns-in_err-push-clause-after : goal.returns-in_err-push-clause-after
returns-in_err-push-clause-after c =
    let old = c.args.numbered.now.names in
    let so_far = take c.loop-name.name-index (names_of_code c.args.code.now) in
    let name = c.as_str.result.now in
    extended old (so_far ++ name ∷ []) c.number.new.numbered.names
    (c.in_ok-number.ensures.names ∙ ap (λ (names : List Text). with_number names name) c.loop-name.invariant.names
    ∙ sym (fold-append with_number old so_far (name ∷ [])))

pub returns-clause-after : goal.returns-clause-after
returns-clause-after c =
    extended c.args.numbered.now.names (take c.loop-name.name-index (names_of_code c.args.code.now)) c.loop-name.numbered.names c.loop-name.invariant.names
