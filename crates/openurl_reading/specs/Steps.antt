-- Steps from a request of any source to one of OpenURL 1.0: each changes the values of one key.
use Rattle.std.specs.Prelude.{Bool, true, false, not, List, [], ◌++◌, map, filter, fold}
use Rattle.text_model.specs.Texts.{Text}
use Rattle.kev_read.specs.Pairs.{KeyValue, has_key}

-- values that are put before all pairs, and whether the other values of the key stay
pub record Change : Type 0 where
  pub values : List Text
  pub keeps : Bool

abbrev pub unchanged : Change
unchanged = record { values = []; keeps = true }

abbrev pub leading : List Text → Change
leading values = record { values = values; keeps = true }

abbrev pub replacing : List Text → Change
replacing values = record { values = values; keeps = false }

-- the pairs of a key and its values
abbrev pub pairs_with : Text → List Text → List KeyValue
pairs_with key values = map (λ value. record { key = key; value = value }) values

-- the pairs of other keys
abbrev pub others : Text → List KeyValue → List KeyValue
others key pairs = filter (λ pair. not (has_key key pair)) pairs

abbrev pub kept : Bool → Text → List KeyValue → List KeyValue
kept true key pairs = pairs
kept false key pairs = others key pairs

abbrev pub changed : Text → Change → List KeyValue → List KeyValue
changed key change pairs = pairs_with key change.values ++ kept change.keeps key pairs

-- a step reads any pairs and changes the values of its key
pub record Step : Type 0 where
  pub key : Text
  pub change : List KeyValue → Change

abbrev pub taken : List KeyValue → Step → List KeyValue
taken pairs step = changed step.key (step.change pairs) pairs

-- the pairs after all steps, in order
abbrev pub after : List Step → List KeyValue → List KeyValue
after steps pairs = fold taken pairs steps
