-- Values without floats, that nest a few levels deep.
use Rattle.std.proofs.Common.{◌≡◌, ◌≤◌, false, List, [], ◌∷◌, map, refl, arith}
use Rattle.serde_json.specs.Data.{depth, items_depth}
use Rattle.serde_json.specs.Read.{max_depth}
use Rattle.serde_json.specs.View.{items_of}
use Rattle.serde_json.specs.Written.{has_float, items_have_float}
use Rattle.kev_read.specs.Pairs.{KeyValue}
use Rattle.openurl_reading.specs.Reading.{ReadRequest}
use Rattle.source_menus.specs.Found.{FoundForQuery, FoundLink}
use Rattle.source_json.specs.Values.{found_value, link_value, pair_value, reading_value}

-- ---- no floats

pairs_plain : (pairs : List KeyValue) → items_have_float (items_of (map pair_value pairs)) ≡ false
pairs_plain [] = refl
pairs_plain (pair ∷ pairs) = pairs_plain pairs

links_plain : (links : List FoundLink) → items_have_float (items_of (map link_value links)) ≡ false
links_plain [] = refl
links_plain (link ∷ links) = links_plain links

pub reading_plain : (reading : ReadRequest) → has_float (reading_value reading) ≡ false
reading_plain reading = rw (pairs_plain reading.pairs) refl

pub found_plain : (found : FoundForQuery) → has_float (found_value found) ≡ false
found_plain found = rw (links_plain found.links, pairs_plain found.reading.pairs) refl

-- ---- depths

pairs_shallow : (pairs : List KeyValue) → items_depth (items_of (map pair_value pairs)) ≤ 1
pairs_shallow [] = omega arith
pairs_shallow (pair ∷ pairs) = omega (arith, pairs_shallow pairs)

links_shallow : (links : List FoundLink) → items_depth (items_of (map link_value links)) ≤ 1
links_shallow [] = omega arith
links_shallow (link ∷ links) = omega (arith, links_shallow links)

pub reading_shallow : (reading : ReadRequest) → depth (reading_value reading) ≤ max_depth
reading_shallow reading = omega (arith, pairs_shallow reading.pairs)

pub found_shallow : (found : FoundForQuery) → depth (found_value found) ≤ max_depth
found_shallow found = omega (arith, pairs_shallow found.reading.pairs, links_shallow found.links)
