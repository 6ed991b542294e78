use Rattle.std.proofs.Common.{arith, ◌≡◌, length, take, drop, subst, ◌∙◌, ◌++◌, sym, ap, ℕ, List, inr, Some, None, encode_utf8_all}
use Rattle.std.proofs.lemmas.Grind.{common_steps}
use Rattle.std.proofs.lemmas.List.{length-take-le}
use Rattle.uri_grammar.specs.declared.error.TemplateErrorKind.TheVariants as kind
use Rattle.uri_grammar.specs.Names.{IsName}
use Rattle.uri_grammar.specs.Faults.{IsSpecFault, bad_name, bad_modifier}
use Rattle.uri_grammar.specs.Private.Reading.{modifier_of}
use Rattle.uri_grammar.proofs.NameLemmas.{encodes-varname}
use Rattle.uri_grammar.proofs.SpecLemmas.{modifier_of-some, modifier_of-none}
use Rattle.uri_grammar.proofs.variables.spec.Goals as goal

pub returns-in_default-clause-err : goal.returns-in_default-clause-err
returns-in_default-clause-err c = rw c.new.ensures (inr (bad_name c.args.text.now c.in_default.ensures.none))

pub returns-in_default-modifier-clause-err : goal.returns-in_default-modifier-clause-err
returns-in_default-modifier-clause-err c =
    let is = c.in-Some.ensures.some in
    let size : length (take c.in-Some.len c.args.text.now) ≡ c.in-Some.len = length-take-le c.in-Some.len c.args.text.now is.0 in
    let none : None ≡ modifier_of (drop c.in-Some.len c.args.text.now) = c.in_default-modifier.ensures ∙ ap modifier_of c.split_at.ensures.back in
    rw c.new-in_default-modifier.ensures
    (inr (subst (λ (n : ℕ). IsSpecFault c.args.text.now kind.BadModifier n) size
    (bad_modifier c.args.text.now (take c.in-Some.len c.args.text.now) (drop c.in-Some.len c.args.text.now) is.1
    (modifier_of-none (drop c.in-Some.len c.args.text.now) none))))

pub returns-clause-ok : goal.returns-clause-ok
returns-clause-ok c =
    let is = c.in-Some.ensures.some.1 in
    let name = take c.in-Some.len c.args.text.now in
    let after = drop c.in-Some.len c.args.text.now in
    let modifier : Some (c.in-Some-modifier.cut, c.in-Some-modifier.explode) ≡ modifier_of after = grind (arith, common_steps) in
    let named : c.new-2.result ≡ name =
    c.new-2.ensures ∙ (c.in_ok-text_of.ensures ∙ (ap encode_utf8_all c.split_at.ensures.front ∙ encodes-varname name is.begins.is_varname)) in
    record {
      after = after;
      whole = is.begins.whole ∙ ap (λ (t : List ℕ). t ++ after) (sym named);
      is_name = subst IsName (sym named) (is.begins.is_varname, is.short);
      modified = modifier_of-some after (c.in-Some-modifier.cut, c.in-Some-modifier.explode) modifier;
    }
