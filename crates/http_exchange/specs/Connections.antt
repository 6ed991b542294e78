-- Connections that are served one at a time, and how they are counted.
use Rattle.std.specs.Prelude.{◌≡◌, ℕ, ◌+◌, ◌<◌, List, [], ◌∷◌, length, map, Option, Some, None, Result, Ok, Err}
use Rattle.menu_source.specs.Menus.{Menus}
use Rattle.http_streams.specs.Streams.{InputState, OutputState, AreFresh}
use Rattle.http_exchange.specs.Exchange.{IsExchange}
use Rattle.http_exchange.specs.declared.exchange.Served.{Served}
use Rattle.http_exchange.specs.declared.exchange.Served.TheVariants.{Nothing, Replied}
use Rattle.http_exchange.specs.declared.exchange.ServeError.{ServeError}
use Rattle.http_exchange.specs.declared.exchange.ServeError.TheVariants.{ReadFault}
use Rattle.http_exchange.specs.declared.counts.Counts.{Counts}

-- ---- connections

-- a connection that was accepted: one whose time-out could not be set, and which is not read; or one with an exchange: its streams before, how the exchange
-- ended, and its streams after
pub data Connection (I O : Type 0) : Type 0 where
  Unread : Connection I O
  Exchanged : I → O → Result Served ServeError → I → O → Connection I O

-- how the connection ended: one that is not read counts as one whose read failed
abbrev pub outcome : {I O : Type 0} → Connection I O → Result Served ServeError
outcome Unread = Err ReadFault
outcome (Exchanged input output result input2 output2) = result

-- its streams were new, each of their calls may take that many nanoseconds, and this was its exchange
abbrev pub IsServed : {I O : Type 0} → Menus → (I → InputState) → (O → OutputState) → ℕ → Connection I O → Type 0
IsServed menus input_state output_state wait Unread = Unit {0}
IsServed menus input_state output_state wait (Exchanged input output result input2 output2) =
    AreFresh wait (input_state input) (output_state output)
    × IsExchange menus (input_state input) (output_state output) result (input_state input2) (output_state output2)

-- the listener accepted the connection with its streams, and closed it afterwards
abbrev pub IsAccepted : {L I O : Type 0} → (L → Option (I × O) → L → Type 0) → (L → I × O → L → Type 0) → L → Connection I O → L → Type 0
IsAccepted gives closes old Unread new = gives old None new
IsAccepted gives closes old (Exchanged input output result input2 output2) new =
    (between : _) × gives old (Some (input, output)) between × closes between (input2, output2) new

-- the connections were accepted one at a time, and each was served and closed before the next
abbrev pub AreServed : {L I O : Type 0} → Menus → (L → Option (I × O) → L → Type 0) → (L → I × O → L → Type 0)
    → (I → InputState) → (O → OutputState) → ℕ → L → List (Connection I O) → L → Type 0
AreServed menus gives closes input_state output_state wait old [] new = old ≡ new
AreServed menus gives closes input_state output_state wait old (c ∷ cs) new =
    (between : _) × IsAccepted gives closes old c between × IsServed menus input_state output_state wait c
    × AreServed menus gives closes input_state output_state wait between cs new

-- ---- counts

-- the counts with one more connection, which ended in this way
abbrev pub counted : Counts → Result Served ServeError → Counts
counted counts (Ok (Replied status)) = record counts { replied = counts.replied + 1 }
counted counts (Ok Nothing) = record counts { nothing = counts.nothing + 1 }
counted counts (Err e) = record counts { faults = counts.faults + 1 }

abbrev pub counted_all : Counts → List (Result Served ServeError) → Counts
counted_all counts [] = counts
counted_all counts (r ∷ rs) = counted_all (counted counts r) rs

abbrev pub none_yet : Counts
none_yet = record { replied = 0; nothing = 0; faults = 0 }

abbrev pub counts_of : {I O : Type 0} → List (Connection I O) → Counts
counts_of connections = counted_all none_yet (map outcome connections)

-- ---- a service

-- exactly that many connections were served, and these are their counts
abbrev pub ServesAll : {L I O : Type 0} → Menus → (L → Option (I × O) → L → Type 0) → (L → I × O → L → Type 0)
    → (I → InputState) → (O → OutputState) → ℕ → ℕ → L → L → Counts → Type 0
ServesAll {I = I} {O = O} menus gives closes input_state output_state wait count old new counts = (all : List (Connection I O))
    × AreServed menus gives closes input_state output_state wait old all new × (length all ≡ count) × (counts ≡ counts_of all)

-- fewer were served, and then none could be accepted
abbrev pub StopsEarly : {L I O : Type 0} → Menus → (L → Option (I × O) → L → Type 0) → (L → I × O → L → Type 0)
    → (L → L → Type 0) → (I → InputState) → (O → OutputState) → ℕ → ℕ → L → L → Type 0
StopsEarly {L = L} {I = I} {O = O} menus gives closes fails input_state output_state wait count old new = (all : List (Connection I O)) × (last : L)
    × AreServed menus gives closes input_state output_state wait old all last × (length all < count) × fails last new
