use Rattle.std.proofs.Common.{◌≡◌, false, ◌||◌, [], sym, ap, ◌∙◌, rules, tests}
use Rattle.std.specs.Str.{bytes_eq}
use Rattle.std.proofs.lemmas.Iterator.{YieldsList-from_slice}
use Rattle.std.proofs.lemmas.Iterator.Search.{any_from_yields_List}
use Rattle.environment_model.specs.Lists.{is_list}
use Rattle.environment_model.specs.Environment.{is_among}
use Rattle.machine_model.specs.Operands.{name_at}
use Rattle.row_scope.specs.NameColumns.{names_at}
use Rattle.row_scope.proofs.NameLemmas.{listed_among, among_numbers, named}
use Rattle.row_scope.proofs.name_columns.is_known_list.Goals as goal

pub returns-else-is_standard_list : goal.returns-else-is_standard_list
returns-else-is_standard_list c =
    let code = c.args.code.now in
    let numbers = c.args.numbers.now in
    let name = c.args.name.now in
    let other : is_list [] name ≡ false = sym c.is_standard_list.ensures ∙ c.if-is_standard_list.false in
    any_from_yields_List (λ number. bytes_eq (name_at code number) name) _ _ _ c.any.ensures.ran (YieldsList-from_slice numbers cc)
    (λ x b q k. search (rules, tests, named))
    ∙ sym (among_numbers code numbers name)
    ∙ sym (ap (λ b. b || is_among name (names_at code numbers)) other)
    ∙ sym (listed_among (names_at code numbers) name)
