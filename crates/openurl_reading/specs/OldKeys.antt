-- The keys of OpenURL 0.1 give their values to those of OpenURL 1.0 that have none.
use Rattle.std.specs.Prelude.{Bool, not, List, [], ◌∷◌, ◌++◌, map, codes, if◌then◌else◌}
use Rattle.text_model.specs.Texts.{Text}
use Rattle.kev_read.specs.Pairs.{KeyValue, all_of}
use Rattle.openurl_reading.specs.Steps.{Change, Step, unchanged, leading}
use Rattle.openurl_reading.specs.Values.{values_of}

-- a key of OpenURL 0.1, and the key of OpenURL 1.0 in its place
pub record OldKey : Type 0 where
  pub old : Text
  pub new : Text

abbrev pub referent : Text → OldKey
referent name = record { old = name; new = codes "rft." ++ name }

-- `rft.eisbn` is no key of OpenURL 1.0, but a number in it is found there
abbrev pub old_keys : List OldKey
old_keys =
    referent (codes "genre") ∷ referent (codes "issn") ∷ referent (codes "eissn") ∷ referent (codes "isbn") ∷ referent (codes "eisbn") ∷
    referent (codes "volume") ∷ referent (codes "issue") ∷ referent (codes "spage") ∷ referent (codes "epage") ∷ referent (codes "pages") ∷
    referent (codes "artnum") ∷ referent (codes "atitle") ∷ referent (codes "jtitle") ∷ referent (codes "btitle") ∷ referent (codes "stitle") ∷
    referent (codes "au") ∷ referent (codes "aulast") ∷ referent (codes "aufirst") ∷ referent (codes "auinit") ∷ referent (codes "auinit1") ∷
    referent (codes "aucorp") ∷ referent (codes "part") ∷ referent (codes "ssn") ∷ referent (codes "quarter") ∷ referent (codes "sici") ∷
    referent (codes "coden") ∷ record { old = codes "pid"; new = codes "rft_dat" } ∷ []

-- values for a key that has some of its own already, or has none
abbrev pub filled : List Text → List Text → Change
filled values [] = leading values
filled values (value ∷ more) = unchanged

abbrev pub copied : OldKey → List KeyValue → Change
copied key pairs = filled (values_of pairs key.old) (all_of pairs key.new)

abbrev pub copy : OldKey → Step
copy key = record { key = key.new; change = copied key }

-- the same, if a test passes
abbrev pub copied_if : Bool → OldKey → List KeyValue → Change
copied_if b key pairs = if b then copied key pairs else unchanged

-- a copy that is made if a test of the pairs passes
abbrev pub copying : (List KeyValue → Bool) → OldKey → Step
copying test key = record { key = key.new; change = λ pairs. copied_if (test pairs) key pairs }

-- the first copy if a test passes, or else the second
abbrev pub choosing : (List KeyValue → Bool) → OldKey → OldKey → List Step
choosing test key other = copying test key ∷ copying (λ pairs. not (test pairs)) other ∷ []

abbrev pub copies : List Step
copies = map copy old_keys
