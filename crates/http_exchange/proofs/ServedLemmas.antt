-- One more connection is served and counted.
use Rattle.std.proofs.Common.{◌≡◌, ℕ, ◌+◌, List, [], ◌∷◌, ◌++◌, length, map, Option, Result, Ok, Err, refl, sym, ap, ◌∙◌, subst, arith}
use Rattle.std.proofs.lemmas.List.{map-append, length-map}
use Rattle.menu_source.specs.Menus.{Menus}
use Rattle.http_streams.specs.Streams.{InputState, OutputState}
use Rattle.http_exchange.specs.declared.exchange.Served.{Served}
use Rattle.http_exchange.specs.declared.exchange.Served.TheVariants.{Nothing, Replied}
use Rattle.http_exchange.specs.declared.exchange.ServeError.{ServeError}
use Rattle.http_exchange.specs.Connections.{AreServed, Connection, IsAccepted, IsServed, counted, counted_all, counts_of, none_yet, outcome}
use Rattle.http_exchange.specs.declared.counts.Counts.{Counts}

-- ---- served

pub served-one_more : {L I O : Type 0} (menus : Menus) (gives : L → Option (I × O) → L → Type 0) (closes : L → I × O → L → Type 0)
    (input_state : I → InputState) (output_state : O → OutputState) (wait : ℕ) (old between new : L) (all : List (Connection I O)) (c : Connection I O)
    → AreServed menus gives closes input_state output_state wait old all between → IsAccepted gives closes between c new
    → IsServed menus input_state output_state wait c
    → AreServed menus gives closes input_state output_state wait old (all ++ c ∷ []) new
served-one_more menus gives closes input_state output_state wait old between new [] c same accepted served =
    (new, subst (λ l. IsAccepted gives closes l c new) (sym same) accepted, served, refl)
served-one_more menus gives closes input_state output_state wait old between new (x ∷ all) c before accepted served =
    (before.0, before.1, before.2, served-one_more menus gives closes input_state output_state wait before.0 between new all c before.3 accepted served)

-- ---- counted

counted_all-one_more : (counts : Counts) (rs : List (Result Served ServeError)) (r : Result Served ServeError)
    → counted_all counts (rs ++ r ∷ []) ≡ counted (counted_all counts rs) r
counted_all-one_more counts [] r = refl
counted_all-one_more counts (x ∷ rs) r = counted_all-one_more (counted counts x) rs r

pub counts-one_more : {I O : Type 0} (all : List (Connection I O)) (c : Connection I O) → counts_of (all ++ c ∷ []) ≡ counted (counts_of all) (outcome c)
counts-one_more all c = ap (counted_all none_yet) (map-append outcome all (c ∷ [])) ∙ counted_all-one_more none_yet (map outcome all) (outcome c)

abbrev pub total : Counts → ℕ
total counts = counts.replied + counts.nothing + counts.faults

total-counted : (counts : Counts) (r : Result Served ServeError) → total (counted counts r) ≡ total counts + 1
total-counted counts (Ok (Replied status)) = omega arith
total-counted counts (Ok Nothing) = omega arith
total-counted counts (Err e) = omega arith

total-counted_all : (counts : Counts) (rs : List (Result Served ServeError)) → total (counted_all counts rs) ≡ total counts + length rs
total-counted_all counts [] = omega arith
total-counted_all counts (r ∷ rs) = omega (arith, total-counted_all (counted counts r) rs, total-counted counts r)

-- the counts of connections sum up to their number
pub total-counts : {I O : Type 0} (all : List (Connection I O)) → total (counts_of all) ≡ length all
total-counts all = omega (arith, total-counted_all none_yet (map outcome all), length-map all outcome)
