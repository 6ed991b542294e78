use Rattle.std.proofs.Common.{◌≡◌, map, take}
use Rattle.std.specs.List.{filter_map}
use Rattle.row_scope.specs.RowEnvironments.{names_of}
use Rattle.link_menu.specs.Private.Searches.{code_next, env_next}
use Rattle.link_menu.proofs.batch.Batch.of.Given as goal

abbrev pub invariant-loop-search : goal.invariant-loop-search
invariant-loop-search l = record {
  codes : map (λ code. code.now) l.batch.codes.items ≡ filter_map code_next (take l.search-index l.searches);
  envs : map (λ row. row.env.entries) l.batch.rows.items ≡ filter_map env_next (take l.search-index l.searches);
  names : map (λ row. row.names) l.batch.rows.items ≡ map names_of (filter_map code_next (take l.search-index l.searches));
}
