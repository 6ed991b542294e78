use Rattle.std.proofs.Common.{map, All, sym, subst}
use Rattle.menu_laws.specs.Hosts.{HasHostOfFirstRow}
use Rattle.menu_laws.proofs.ClosedHosts.{LawsOfHosts, closed_entries, closed_links, closed_target}
use Rattle.rule_menus.specs.RuleMenus.{coded}
use Rattle.menu_laws.proofs.hosts.no_open_redirect.Goals as goal

pub returns : goal.returns
returns c =
    let laws : LawsOfHosts = record { chosen = c.first_web_link_is_chosen.ensures; host = c.no_request_sets_the_host.ensures.meaning } in
    record {
      target = λ target pairs row link sound closed is. closed_target laws pairs target row link sound closed is;
      menu = λ targets pairs sound. closed_entries laws pairs targets sound;
      links = λ targets pairs sound closed. closed_links laws pairs targets sound closed;
      text = λ targets pairs sound closed registry.
          subst (All (HasHostOfFirstRow targets pairs)) (sym (c.text_is_read_as_its_links.ensures.registry (map coded targets) pairs registry))
          (closed_links laws pairs targets sound closed);
    }
