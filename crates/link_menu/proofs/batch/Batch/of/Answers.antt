use Rattle.std.proofs.Common.{◌++◌, ◌∷◌, [], ap, ◌∙◌, sym, map, take}
use Rattle.std.proofs.lemmas.List.{map-append, take_all}
use Rattle.std.specs.List.{filter_map}
use Rattle.row_scope.specs.RowEnvironments.{names_of}
use Rattle.link_menu.specs.Private.Searches.{code_next, env_next}
use Rattle.link_menu.proofs.BatchLemmas.{whole_batch, one_more}
use Rattle.link_menu.proofs.batch.Batch.of.Goals as goal

pub loop-search-preserved : goal.loop-search-preserved
loop-search-preserved c =
    let inv = c.loop-search.invariant in
    let searches = c.args.searches.now in
    let i = c.loop-search.search-index in
    let s = c.search-item.result in
    record {
      codes =
          c.in_ok-add.ensures.codes
          ∙ ap (λ codes. codes ++ filter_map code_next (s ∷ [])) inv.codes
          ∙ ap (λ next. filter_map code_next (take i searches) ++ filter_map code_next (next ∷ [])) c.search-item.is
          ∙ sym (one_more code_next searches i s c.loop-search-test.true);
      envs =
          c.in_ok-add.ensures.envs
          ∙ ap (λ envs. envs ++ filter_map env_next (s ∷ [])) inv.envs
          ∙ ap (λ next. filter_map env_next (take i searches) ++ filter_map env_next (next ∷ [])) c.search-item.is
          ∙ sym (one_more env_next searches i s c.loop-search-test.true);
      names =
          c.in_ok-add.ensures.names
          ∙ ap (λ names. names ++ map names_of (filter_map code_next (s ∷ []))) inv.names
          ∙ sym (map-append names_of (filter_map code_next (take i searches)) (filter_map code_next (s ∷ [])))
          ∙ ap (λ next. map names_of (filter_map code_next (take i searches) ++ filter_map code_next (next ∷ []))) c.search-item.is
          ∙ ap (map names_of) (sym (one_more code_next searches i s c.loop-search-test.true));
    }

pub returns : goal.returns
returns c =
    let inv = c.loop-search.invariant in
    let searches = c.args.searches.now in
    let all = take_all c.loop-search.search-index searches c.loop-search-test.false in
    whole_batch searches c.loop-search.batch (inv.codes ∙ ap (filter_map code_next) all) (inv.envs ∙ ap (filter_map env_next) all)
    (inv.names ∙ ap (λ ss. map names_of (filter_map code_next ss)) all)
