use Rattle.std.proofs.Common.{◌≡◌, ◌+◌, ◌<◌, true, false, ◌++◌, ◌∷◌, [], Some, length, slice_get, sym, ap, ◌∙◌, subst, arith}
use Rattle.std.proofs.lemmas.List.Elements.{All-push}
use Rattle.code_model.specs.Code.{Name}
use Rattle.environment_model.specs.Lists.{is_list}
use Rattle.machine_model.specs.Operands.{name_at}
use Rattle.row_scope.specs.NameColumns.{names_at}
use Rattle.row_scope.proofs.NameLemmas.{AreNew, AreSame, named, new_more, same_pushed, same_known, same_unlisted}
use Rattle.row_scope.proofs.name_columns.own_lists.Goals as goal
use Rattle.row_scope.proofs.name_columns.own_lists.Goals.{then-name+then-not-is_known_list+in_ok-push, else-name}
use Rattle.row_scope.proofs.name_columns.own_lists.Goals.{else-name-via-then-name+else-not-is_known_list, else-name-via-else-name}

pub loop-number-preserved : goal.loop-number-preserved
loop-number-preserved c =
    let inv = c.loop-number.invariant in
    let code = c.args.code.now in
    let number = c.loop-number.number in
    let before = c.loop-number.lists.items in
    let name : Name = c.name-name.result.now in
    let there : slice_get code.names number ≡ Some name = c.name-name.ensures in
    let list : c.name.inside.list ≡ name.list = ap (λ n. n.list) c.name.view_is in
    let within : number < length code.names = omega (arith, c.loop-number-test.true, ap length c.names-number-end.ensures) in
    elim c.if-name.branch [
      | then-name+then-not-is_known_list+in_ok-push w ↦
          let items : c.if-name.lists.items ≡ before ++ number ∷ [] = ap (λ v. v.items) w.lists-is ∙ w.in_ok-push.ensures.items in
          let text : w.as_str.result.now ≡ name.text = w.as_str.ensures.value ∙ ap (λ n. n.text) c.name.view_is in
          let other : is_list (names_at code before) (name_at code number) ≡ false =
          ap (is_list (names_at code before)) (named code number name there ∙ sym text)
          ∙ ap (λ ns. is_list (names_at code ns) w.as_str.result.now) (sym w.deref.ensures.value)
          ∙ sym w.is_known_list.ensures
          ∙ w.if-not-is_known_list.true in
          record {
            within = rw items (All-push (λ n. n < length code.names) before number inv.within within);
            new = subst (AreNew code) (sym items) (new_more code before number inv.new other);
            same = subst (λ ns. AreSame code ns (number + 1)) (sym items) (same_pushed code before number name there inv.same (sym list ∙ w.if-name.true));
          }
      | else-name w ↦
          let items : c.if-name.lists.items ≡ before = ap (λ v. v.items) w.lists-is in
          elim w.else-name.branch [
            | else-name-via-then-name+else-not-is_known_list w' ↦
                let text : w'.as_str.result.now ≡ name.text = w'.as_str.ensures.value ∙ ap (λ n. n.text) c.name.view_is in
                let known : is_list (names_at code before) name.text ≡ true =
                ap (is_list (names_at code before)) (sym text)
                ∙ ap (λ ns. is_list (names_at code ns) w'.as_str.result.now) (sym w'.deref.ensures.value)
                ∙ sym w'.is_known_list.ensures
                ∙ w'.if-not-is_known_list.false in
                record {
                  within = rw items inv.within;
                  new = subst (AreNew code) (sym items) inv.new;
                  same = subst (λ ns. AreSame code ns (number + 1)) (sym items)
                      (same_known code before number name there inv.same (sym list ∙ w'.if-name.true) known);
                }
            | else-name-via-else-name w' ↦
                record {
                  within = rw items inv.within;
                  new = subst (AreNew code) (sym items) inv.new;
                  same = subst (λ ns. AreSame code ns (number + 1)) (sym items)
                      (same_unlisted code before number name there inv.same (sym list ∙ w'.if-name.false));
                }
          ]
    ]
