use Rattle.std.proofs.Common.{◌∙◌, rules, tests}
use Rattle.std.specs.Borrow.{Bor}
use Rattle.std.specs.Str.{str_eq_ignore_ascii_case}
use Rattle.std.proofs.lemmas.Iterator.{YieldsList-from_slice}
use Rattle.std.proofs.lemmas.Iterator.Search.{any_from_yields_List}
use Rattle.text_model.specs.Texts.{Text}
use Rattle.work_identifiers.proofs.AnyTexts.{any-texts_of}
use Rattle.work_identifiers.proofs.addresses.is_one_of.Goals as goal

pub returns : goal.returns
returns c =
    let word = c.args.word.now in
    let words = c.args.words.now in
    any_from_yields_List (λ (one : Bor Text). str_eq_ignore_ascii_case one.now word) _ _ _ c.any.ensures.ran (YieldsList-from_slice words cc)
    (λ x b q k. search (rules, tests))
    ∙ any-texts_of str_eq_ignore_ascii_case word words
