use Rattle.std.proofs.Common.{◌≡◌, ◌++◌, ◌∷◌, [], true, false, sym, ap, ◌∙◌, append-nil}
use Rattle.std.specs.List.{list_any}
use Rattle.source_menus.specs.Parts.{target_of}
use Rattle.source_menus.specs.Found.{first_of_each, is_of, links_in, request_value}
use Rattle.source_menus.proofs.FirstOfEach.{link_added}
use Rattle.source_menus.proofs.links.push_link.Goals as goal

pub returns-then-has_target : goal.returns-then-has_target
returns-then-has_target c =
    let links = c.args.links.now.items in
    let request = request_value c.args.request in
    let name = c.entry.inside.name.now in
    let known : list_any (is_of (target_of name)) links ≡ true =
    ap (λ t. list_any (is_of t) links) (sym c.target.ensures) ∙ ap (list_any (is_of c.target.result.now)) (sym c.deref.ensures.value)
    ∙ sym c.has_target.ensures ∙ c.if-has_target.true in
    let added = link_added request name c.entry.inside.resolution c.in-Link.row c.in-Link.link links true c.in-Link.is c.requires.once known in
    sym (ap (λ entry. first_of_each (links ++ links_in request (entry ∷ []))) (sym c.entry.view_is) ∙ added ∙ append-nil links)

pub returns : goal.returns
returns c =
    let links = c.args.links.now.items in
    let request = request_value c.args.request in
    let name = c.entry.inside.name.now in
    let row = c.in-Link.row in
    let known : list_any (is_of (target_of name)) links ≡ false =
    ap (λ t. list_any (is_of t) links) (sym c.target.ensures) ∙ ap (list_any (is_of c.target.result.now)) (sym c.deref.ensures.value)
    ∙ sym c.has_target.ensures ∙ c.if-has_target.false in
    let added = link_added request name c.entry.inside.resolution row c.in-Link.link links false c.in-Link.is c.requires.once known in
    let pushed : c.push.new.self.items ≡ links ++ record { name = name; row = row; link = c.in-Link.link; request = request } ∷ [] =
    c.in_ok-push.ensures.items ∙ ap (λ link. links ++ record { name = name; row = row; link = link; request = request } ∷ []) c.in_ok-link.ensures in
    pushed ∙ sym (ap (λ entry. first_of_each (links ++ links_in request (entry ∷ []))) (sym c.entry.view_is) ∙ added)
