use Rattle.std.proofs.Common.{◌≡◌, ◌+◌, ◌++◌, ◌∷◌, [], get_or, take, sym, ap, subst, ◌∙◌, append_assoc}
use Rattle.std.proofs.lemmas.List.{take_more}
use Rattle.std.proofs.lemmas.List.Elements.{filter_map-append}
use Rattle.menu.specs.Entries.{MenuEntry}
use Rattle.source_menus.specs.Found.{first_of_each, link_by, links_in, request_value}
use Rattle.source_menus.proofs.FirstOfEach.{each_after, each_once}
use Rattle.source_menus.proofs.links.push_links.Goals as goal

pub push_link-requires : goal.push_link-requires
push_link-requires c = record { once = subst (λ list. first_of_each list ≡ list) (sym c.loop-entry.invariant) (each_once _) }

pub loop-entry-preserved : goal.loop-entry-preserved
loop-entry-preserved c =
    let request = request_value c.args.request in
    let entries = c.args.entries.now in
    let index = c.loop-entry.entry-index in
    let item = c.entry-item.result in
    let front = c.args.links.now.items in
    let so_far = links_in request (take index entries) in
    let next = links_in request (item ∷ []) in
    let more : links_in request (take (index + 1) entries) ≡ so_far ++ next =
    ap (links_in request) (take_more entries index item c.loop-entry-test.true)
    ∙ filter_map-append (λ (entry : MenuEntry). link_by request entry.name entry.resolution) (take index entries) (get_or entries index item ∷ [])
    ∙ ap (λ entry. so_far ++ links_in request (entry ∷ [])) (sym c.entry-item.is) in
    c.in_ok-push_link.ensures ∙ ap (λ list. first_of_each (list ++ next)) c.loop-entry.invariant ∙ each_after (front ++ so_far) next
    ∙ ap first_of_each (append_assoc front so_far next) ∙ ap (λ list. first_of_each (front ++ list)) (sym more)
