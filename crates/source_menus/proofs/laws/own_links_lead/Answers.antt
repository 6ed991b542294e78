use Rattle.std.proofs.Common.{◌++◌}
use Rattle.std.specs.List.{flat_map}
use Rattle.source_menus.specs.Found.{Any, Further, Own, links_by}
use Rattle.source_menus.proofs.OfMenus.{lead, others}
use Rattle.source_menus.proofs.laws.own_links_lead.Goals as goal

pub returns-clause-first : goal.returns-clause-first
returns-clause-first c menus numbers pairs =
    lead (links_by menus pairs Own) (flat_map (λ number. links_by menus pairs (Further number)) numbers ++ links_by menus pairs Any)

pub returns-clause-others : goal.returns-clause-others
returns-clause-others c menus numbers pairs = others menus numbers pairs
