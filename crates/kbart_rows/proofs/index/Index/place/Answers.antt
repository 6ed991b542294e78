use Rattle.std.proofs.Common.{◌≡◌, ℕ, ◌+◌, ◌<◌, ◌≤◌, List, ◌∙◌, ap, arith, get_or, length, subst}
use Rattle.std.proofs.lemmas.List.{get_or_default}
use Rattle.std.proofs.lemmas.Grind.{common_steps}
use Rattle.kbart_rows.specs.Private.Index.{AreStarts, bucket_of, entry_key, key_of}
use Rattle.kbart_rows.specs.declared.index.Entry.{Entry}
use Rattle.kbart_rows.proofs.IndexLemmas.{place_after, place_before, starts_rise}
use Rattle.kbart_rows.proofs.index.Index.place.Goals as goal

inside : (shift hash : ℕ) (entries : List Entry) (starts : List ℕ) → AreStarts shift entries starts → hash < 4294967296
    → bucket_of shift hash + 1 < length starts
inside shift hash entries starts are fits = grind (arith, common_steps)

starts_at : (starts : List ℕ) (bucket found : ℕ) → bucket < length starts → found ≡ get_or starts bucket found → found ≡ get_or starts bucket 0
starts_at starts bucket found inside is = is ∙ get_or_default starts bucket found 0 inside

pub place_in-requires-clause-rising : goal.place_in-requires-clause-rising
place_in-requires-clause-rising c =
    let table = c.self.inside in
    let are = c.self.invariant.starting in
    let bucket = bucket_of table.shift c.args.hash in
    let within = inside table.shift c.args.hash table.entries.items table.starts.items are c.ranges.hash.fits in
    let rise = starts_rise table.shift table.entries.items table.starts.items bucket are within in
    let start = starts_at table.starts.items bucket c.index.result.now (omega (arith, within)) c.index.ensures in
    let end = starts_at table.starts.items (bucket + 1) c.index-2.result.now within c.index-2.ensures in
    omega (arith, rise, start, end)

pub place_in-requires-clause-within : goal.place_in-requires-clause-within
place_in-requires-clause-within c =
    let table = c.self.inside in
    let are = c.self.invariant.starting in
    let bucket = bucket_of table.shift c.args.hash in
    let inside = inside table.shift c.args.hash table.entries.items table.starts.items are c.ranges.hash.fits in
    let within = are.within (bucket + 1) inside in
    let end = starts_at table.starts.items (bucket + 1) c.index-2.result.now inside c.index-2.ensures in
    let size : length c.as_slice.result.now ≡ length table.entries.items = ap length c.as_slice.ensures.value in
    omega (arith, within, end, size)

pub returns-clause-before : goal.returns-clause-before
returns-clause-before c =
    let table = c.self.inside in
    let are = c.self.invariant.starting in
    let bucket = bucket_of table.shift c.args.hash in
    let inside = inside table.shift c.args.hash table.entries.items table.starts.items are c.ranges.hash.fits in
    let start = starts_at table.starts.items bucket c.index.result.now (omega (arith, inside)) c.index.ensures in
    subst (λ (entries : List Entry). (k : ℕ) (d : Entry) → k < c.place_in.result → k < length entries
    → entry_key (get_or entries k d) < key_of c.args.hash c.args.row) c.self.view_is
    (place_before table.shift table.entries.items table.starts.items c.args.hash c.args.row c.index.result.now c.place_in.result are
    c.self.invariant.small inside start
    (subst (λ (entries : List Entry). (k : ℕ) (d : Entry) → c.index.result.now ≤ k → k < c.place_in.result
    → entry_key (get_or entries k d) < key_of c.args.hash c.args.row) c.as_slice.ensures.value
    (rw (← c.key_of.ensures) c.place_in.ensures.before)))

pub returns-clause-after : goal.returns-clause-after
returns-clause-after c =
    let table = c.self.inside in
    let are = c.self.invariant.starting in
    let bucket = bucket_of table.shift c.args.hash in
    let inside = inside table.shift c.args.hash table.entries.items table.starts.items are c.ranges.hash.fits in
    let end = starts_at table.starts.items (bucket + 1) c.index-2.result.now inside c.index-2.ensures in
    subst (λ (entries : List Entry). (k : ℕ) (d : Entry) → c.place_in.result ≤ k → k < length entries
    → key_of c.args.hash c.args.row ≤ entry_key (get_or entries k d)) c.self.view_is
    (place_after table.shift table.entries.items table.starts.items c.args.hash c.args.row c.index-2.result.now c.place_in.result are
    c.ranges.row.fits inside end
    (subst (λ (entries : List Entry). (k : ℕ) (d : Entry) → c.place_in.result ≤ k → k < c.index-2.result.now
    → key_of c.args.hash c.args.row ≤ entry_key (get_or entries k d)) c.as_slice.ensures.value
    (rw (← c.key_of.ensures) c.place_in.ensures.after)))
