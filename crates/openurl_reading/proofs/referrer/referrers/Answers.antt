use Rattle.std.proofs.Common.{◌++◌, ◌∷◌, [], map, ap, sym, ◌∙◌}
use Rattle.std.specs.Prelude.{codes}
use Rattle.kev_read.specs.Pairs.{all_of}
use Rattle.openurl_reading.specs.Referrers.{referrer_of}
use Rattle.openurl_reading.proofs.Firsts.{first_alone, none_first}
use Rattle.openurl_reading.proofs.referrer.referrers.Goals as goal

pub returns-in_ok-push-in-Some : goal.returns-in_ok-push-in-Some
returns-in_ok-push-in-Some c =
    c.in_ok-push-in-Some.ensures.items ∙ ap (λ l. l ++ c.in_ok-referrer_of-in-Some.field-0 ∷ []) c.new-ids.ensures.items
    ∙ ap (λ id. id ∷ []) c.in_ok-referrer_of-in-Some.ensures
    ∙ ap (map referrer_of) (sym (first_alone (all_of c.args.pairs.now (codes "sid")) c.in-Some.sid.now (sym c.in-Some.ensures)))

pub returns-in-None : goal.returns-in-None
returns-in-None c =
    c.new-ids.ensures.items ∙ ap (map referrer_of) (sym (none_first (all_of c.args.pairs.now (codes "sid")) (sym c.in-None.ensures)))
