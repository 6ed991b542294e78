-- What `serve` prints and serves, and why it does not serve.
use Rattle.std.specs.Prelude.{◌≡◌, ◌≢◌, ℕ, List, [], ◌∷◌, ◌++◌, codes, Option, Some, None}
use Rattle.std.specs.Fmt.{decimal}
use Rattle.std.specs.Borrow.{Bor}
use Rattle.text_model.specs.Texts.{Text}
use Rattle.http_streams.specs.Streams.{InputState, OutputState}
use Rattle.registry.specs.Targets.{TargetValue}
use Rattle.registry.specs.Entries.{menu_of}
use Rattle.registry_file.specs.Loading.{IsLoaded}
use Rattle.http_exchange.specs.Connections.{ServesAll, StopsEarly}
use Rattle.http_exchange.specs.declared.counts.Counts.{Counts}
use Rattle.commands.specs.World.{Told}
use Rattle.commands.specs.Answers.{IsNoRegistry}
use Rattle.commands.specs.Faults.{out_of_memory}
use Rattle.commands.specs.Output.{Output}
use Rattle.commands.specs.declared.fault.Fault.{Fault}
use Rattle.commands.specs.declared.fault.Fault.TheVariants.{Port, Device}
use Rattle.commands.specs.declared.service.Service.{Service}

-- the line that says where the service listens
abbrev pub listening_line : ℕ → Text
listening_line port = codes "listening 127.0.0.1:" ++ (decimal port ++ 10 ∷ [])

-- the line that says how many connections ended in each way
abbrev pub counts_line : Counts → Text
counts_line counts =
    codes "openlink: " ++ (decimal counts.replied ++ (codes " replied, " ++ (decimal counts.nothing ++ (codes " silent, "
    ++ (decimal counts.faults ++ codes " failed\n")))))

-- how long a read or a write of a connection may take, in nanoseconds
abbrev pub wait : ℕ
wait = 2_000_000_000

module _ {PortState Listener : Type 0} (binds : PortState → ℕ → Listener × ℕ → PortState → Type 0) (old : PortState) (service : Service) (new : PortState) where
  -- a listener is bound to the port, or to a free one if that is 0
  pub record IsBound (listener : Listener) (place : ℕ) : Type 0 where
    pub bound : binds old service.port (listener, place) new
    pub at_port : service.port ≢ 0 → place ≡ service.port

  -- it listens, and the line says where
  abbrev pub Listens : Listener → Text → Type 0
  Listens listener line = (place : ℕ) × IsBound listener place × (line ≡ listening_line place)

  -- why it does not listen
  pub data IsDeaf (no_port : PortState → ℕ → PortState → Type 0) : Fault → Type 0 where
    unbound : no_port old service.port new → IsDeaf no_port (Port service.port_text)
    no_memory : (listener : Listener) (place : ℕ) → IsBound listener place → IsDeaf no_port out_of_memory

-- how the service of the menus of these targets ends
module _ {P Listener In Out : Type 0} (binds : P → ℕ → Listener × ℕ → P → Type 0) (no_port : P → ℕ → P → Type 0)
    (gives : Listener → Option (In × Out) → Listener → Type 0) (closes : Listener → In × Out → Listener → Type 0) (no_more : Listener → Listener → Type 0)
    (input_state : In → InputState) (output_state : Out → OutputState) (old : P) (service : Service) (new : P) where
  pub data ServesMenus (targets : List TargetValue) (output notes : Output) : Option Fault → Type 0 where
    deaf : (fault : Fault) → IsDeaf binds old service new no_port fault → output.gets_nothing → notes.gets_nothing
        → ServesMenus targets output notes (Some fault)
    unprinted : (listener : Listener) (line : Text) (path : Bor Text) → Listens binds old service new listener line
        → path.now ≡ codes "-" → output.gets_part line → notes.gets_nothing → ServesMenus targets output notes (Some (Device path))
    stops : (first last : Listener) (line : Text) → Listens binds old service new first line → output.gets line
        → StopsEarly (menu_of targets) gives closes no_more input_state output_state wait service.count first last
        → notes.gets_nothing → ServesMenus targets output notes (Some (Port service.port_text))
    serves : (first last : Listener) (line : Text) (counts : Counts) → Listens binds old service new first line → output.gets line
        → ServesAll (menu_of targets) gives closes input_state output_state wait service.count first last counts
        → notes.gets_part (counts_line counts) → ServesMenus targets output notes None

-- how it ends, what it prints, and what it prints on standard error before an error; no port is bound before the registry is loaded
pub data Serves {System : Type 0} (told : Told System) (old : System) (service : Service) (new : System) (output notes : Output) : Option Fault → Type 0 where
  unloaded : (fault : Fault) → IsNoRegistry told.at told.fails told.runs_out told.draws told.no_keys (told.files old) (told.files new) (told.keys old)
      (told.keys new) service.registry fault → told.ports new ≡ told.ports old → output.gets_nothing → notes.gets_nothing
      → Serves told old service new output notes (Some fault)
  loaded : (targets : List TargetValue) (end : Option Fault)
      → IsLoaded told.draws (told.at (told.files old)) (told.keys old) service.registry.now (told.keys new) targets
      → ServesMenus told.binds told.no_port told.gives told.closes told.no_more told.input_state told.output_state (told.ports old) service (told.ports new)
      targets output notes end → Serves told old service new output notes end
