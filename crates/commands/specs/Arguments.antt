-- The arguments of each command.
use Rattle.std.specs.Prelude.{◌≡◌, ◌⊎◌, List, [], ◌∷◌, codes}
use Rattle.text_model.specs.Texts.{Text, texts_of}
use Rattle.answers.specs.Expansion.{names_of}
use Rattle.commands.specs.ExpandArguments.{AreExpandArguments}
use Rattle.commands.specs.Service.{IsServiceOf}
use Rattle.commands.specs.declared.list_options.ExpandArguments.{ExpandArguments}
use Rattle.commands.specs.declared.service.Service.{Service}
use Rattle.commands.specs.declared.arguments.Command.{Command}
use Rattle.commands.specs.declared.arguments.Command.TheVariants.{Expand, Link, Compile, Verify, Show, Upgrade, Run, Inspect, Lint, Explain, Resolve, Serve}
use Rattle.commands.specs.declared.arguments.Command.TheVariants.{Read, Find, Help, Version}

-- the arguments are `expand`, and then those of an expansion
pub record AreArgumentsOfExpand (arguments : List Text) (e : ExpandArguments) : Type 0 where
  pub rest : List Text
  pub named : arguments ≡ codes "expand" ∷ rest
  pub given : AreExpandArguments rest (names_of (texts_of e.options.now)) e.template.now e.query.now

-- the arguments are `serve`, the path of a registry, a port and a number of connections
pub record AreArgumentsOfServe (arguments : List Text) (s : Service) : Type 0 where
  pub registry : Text
  pub port : Text
  pub count : Text
  pub named : arguments ≡ codes "serve" ∷ registry ∷ port ∷ count ∷ []
  pub given : IsServiceOf registry port count s

-- the arguments are those of the command
abbrev pub AreArgumentsOf : List Text → Command → Type 0
AreArgumentsOf arguments (Expand e) = AreArgumentsOfExpand arguments e
AreArgumentsOf arguments (Link rules query) = arguments ≡ codes "link" ∷ rules.now ∷ query.now ∷ []
AreArgumentsOf arguments (Compile rules code) = arguments ≡ codes "compile" ∷ rules.now ∷ code.now ∷ []
AreArgumentsOf arguments (Verify code) = arguments ≡ codes "verify" ∷ code.now ∷ []
AreArgumentsOf arguments (Show code) = arguments ≡ codes "show" ∷ code.now ∷ []
AreArgumentsOf arguments (Upgrade old new) = arguments ≡ codes "upgrade" ∷ old.now ∷ new.now ∷ []
AreArgumentsOf arguments (Run code query) = arguments ≡ codes "run" ∷ code.now ∷ query.now ∷ []
AreArgumentsOf arguments (Inspect table) = arguments ≡ codes "inspect" ∷ table.now ∷ []
AreArgumentsOf arguments (Lint rules table) = arguments ≡ codes "lint" ∷ rules.now ∷ table.now ∷ []
AreArgumentsOf arguments (Explain rules table query) = arguments ≡ codes "explain" ∷ rules.now ∷ table.now ∷ query.now ∷ []
AreArgumentsOf arguments (Resolve registry query) = arguments ≡ codes "resolve" ∷ registry.now ∷ query.now ∷ []
AreArgumentsOf arguments (Read query) = arguments ≡ codes "read" ∷ query.now ∷ []
AreArgumentsOf arguments (Find registry query) = arguments ≡ codes "find" ∷ registry.now ∷ query.now ∷ []
AreArgumentsOf arguments (Serve s) = AreArgumentsOfServe arguments s
AreArgumentsOf arguments Help = (arguments ≡ codes "--help" ∷ []) ⊎ (arguments ≡ codes "-h" ∷ []) ⊎ (arguments ≡ codes "help" ∷ [])
AreArgumentsOf arguments Version = arguments ≡ codes "--version" ∷ []

-- they are the arguments of no command
abbrev pub AreNoArguments : List Text → Type 0
AreNoArguments arguments = (command : Command) → AreArgumentsOf arguments command → ⊥
