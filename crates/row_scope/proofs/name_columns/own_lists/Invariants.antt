use Rattle.std.proofs.Common.{◌≡◌, ℕ, ◌<◌, false, All, length, take, get_or}
use Rattle.environment_model.specs.Lists.{is_list}
use Rattle.machine_model.specs.Operands.{name_at}
use Rattle.text_model.specs.Texts.{Text}
use Rattle.row_scope.specs.NameColumns.{names_at}
use Rattle.row_scope.proofs.NameLemmas.{lists_before}
use Rattle.row_scope.proofs.name_columns.own_lists.Given as goal

-- the lists of the names so far, each once
abbrev pub invariant-loop-number : goal.invariant-loop-number
invariant-loop-number l = record {
  within : All (λ number. number < length l.code.names) l.lists.items;
  new : (k d : ℕ) → k < length l.lists.items → is_list (names_at l.code (take k l.lists.items)) (name_at l.code (get_or l.lists.items k d)) ≡ false;
  same : (name : Text) → is_list (names_at l.code l.lists.items) name ≡ is_list (lists_before l.code l.number) name;
}
