use Rattle.std.proofs.Common.{◌≡◌, ◌++◌, sym, ap, ◌∙◌}
use Rattle.kev_read.specs.Pairs.{pairs_of}
use Rattle.source_requests.specs.Requests.{any_pairs, fitting, reading_of_source, written}
use Rattle.source_menus.specs.Found.{Any, Own, first_of_each, links_in}
use Rattle.http_exchange.specs.RouteReplies.{found_with, json_reply, links_reply}
use Rattle.http_exchange.proofs.laws.links_are_those_of_menus.Goals as goal

pub returns : goal.returns
unfolding links_reply
returns c = λ menus query reply own any e f x y h.
    let back = c.written_pairs_are_read_back.ensures in
    let first : fitting (reading_of_source query).pairs ≡ pairs_of (written own) = sym e ∙ sym (back own x) in
    let second : fitting (any_pairs (reading_of_source query).pairs) ≡ pairs_of (written any) = sym f ∙ sym (back any y) in
    h ∙ ap (λ ps. json_reply query (found_with query (first_of_each
    (links_in Own (menus ps) ++ links_in Any (menus (fitting (any_pairs (reading_of_source query).pairs))))))) first
    ∙ ap (λ ps. json_reply query (found_with query (first_of_each (links_in Own (menus (pairs_of (written own))) ++ links_in Any (menus ps))))) second
