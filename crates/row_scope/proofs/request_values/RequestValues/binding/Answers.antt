use Rattle.std.proofs.Common.{[], None, sym, ap, ◌∙◌, arith, inl, if◌then◌else◌}
use Rattle.kev_read.specs.Pairs.{all_of, first_of}
use Rattle.row_scope.proofs.ValueLemmas.{first_value}
use Rattle.row_scope.proofs.request_values.RequestValues.binding.Goals as goal

pub returns-else-is_list : goal.returns-else-is_list
returns-else-is_list c = λ key declared place is_list.
    let request = c.args.self.now in
    let no = c.if-count-eq0.false in
    let text = sym is_list ∙ c.if-is_list.false in
    let within = c.span-start.ensures.within.inside in (
      record {
        within = record { inside = within; one_side = inl within };
        is = c.requests_by_keys.ensures.text declared request.pairs key
            ∙ ap (λ b. if b then None else first_of request.pairs key) text
            ∙ first_value request key c.args.first c.args.count c.span-start.result place c.span-start.ensures.value (omega (arith, no));
      },
      c.requests_by_keys.ensures.members declared request.pairs key ∙ ap (λ b. if b then all_of request.pairs key else []) text,
    )
