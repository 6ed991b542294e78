use Rattle.std.proofs.Common.{◌≡◌, false, ◌||◌, ◌&&◌, [], sym, ap, ◌∙◌, rules, tests}
use Rattle.std.specs.Str.{bytes_eq}
use Rattle.std.proofs.lemmas.Iterator.{YieldsList-from_slice}
use Rattle.std.proofs.lemmas.Iterator.Search.{any_from_yields_List}
use Rattle.environment_model.specs.Lists.{is_list}
use Rattle.environment_model.specs.Environment.{is_among}
use Rattle.row_scope.specs.RowEnvironments.{lists_of}
use Rattle.row_scope.proofs.NameLemmas.{listed_among, among_lists}
use Rattle.row_scope.proofs.name_columns.is_list.Goals as goal

pub returns-else-is_standard_list : goal.returns-else-is_standard_list
returns-else-is_standard_list c =
    let code = c.args.code.now in
    let name = c.args.name.now in
    let other : is_list [] name ≡ false = sym c.is_standard_list.ensures ∙ c.if-is_standard_list.false in
    any_from_yields_List (λ n. n.list && bytes_eq n.text name) _ _ _ c.any.ensures.ran (YieldsList-from_slice code.names cc) (λ x b q k. search (rules, tests))
    ∙ sym (among_lists code.names name)
    ∙ sym (ap (λ b. b || is_among name (lists_of code)) other)
    ∙ sym (listed_among (lists_of code) name)
