-- Why a target is not added.
use Rattle.std.specs.Prelude.{◌≡◌, ◌<◌, List, length}
use Rattle.text_model.specs.Texts.{Text}
use Rattle.registry.specs.Targets.{TargetValue, IsFreeName}
use Rattle.registry.specs.declared.registry.TheConstants.{MAX_TARGETS}
use Rattle.registry.specs.declared.error.AddErrorKind.{AddErrorKind}
use Rattle.registry.specs.declared.error.AddErrorKind.TheVariants.{Full, BadTargetName, NoMemory}

-- there is room for one more, and it may have the name
abbrev pub MayBeAdded : List TargetValue → Text → Type 0
MayBeAdded targets name = (length targets < MAX_TARGETS) × IsFreeName targets name

-- the first reason in the order number, name, memory
abbrev pub IsAddRefusal : List TargetValue → Text → AddErrorKind → Type 0
IsAddRefusal targets name Full = length targets ≡ MAX_TARGETS
IsAddRefusal targets name BadTargetName = (length targets < MAX_TARGETS) × ¬ (IsFreeName targets name)
IsAddRefusal targets name NoMemory = MayBeAdded targets name
