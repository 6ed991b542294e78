use Rattle.std.proofs.Common.{◌≡◌, Option, Some, None, not, ap, sym, ◌∙◌, refl, rules, tests}
use Rattle.std.specs.Prelude.{option_map}
use Rattle.std.specs.Str.{bytes_eq}
use Rattle.std.proofs.lemmas.Iterator.Adapters.{YieldsList-from_vec}
use Rattle.std.proofs.lemmas.Iterator.Search.{find_from_yields_List}
use Rattle.text_model.specs.Texts.{Text}
use Rattle.openurl_reading.specs.Numbers as spec
use Rattle.openurl_reading.proofs.numbers.other_than.Goals as goal

as_it_is : (found : Option Text) → option_map (λ x. x) found ≡ found
as_it_is None = refl
as_it_is (Some x) = refl

pub returns : goal.returns
returns c =
    let numbers = c.args.numbers.items in
    let number = c.in_ok-number.number in
    sym (as_it_is c.find.result)
    ∙ find_from_yields_List (λ other. not (bytes_eq other number)) c.find.new.self _ c.find.result c.find.ensures.ran
    (YieldsList-from_vec {s = c.into_iter.result} numbers (search rules) (search rules)) (λ x b q k. search (rules, tests))
    ∙ ap (λ n. spec.other_than n numbers) (sym c.in_ok-number.was)
