-- The source of a request: `sid` of OpenURL 0.1 gives the identifier of a referrer, in the namespace `info:sid`.
use Rattle.std.specs.Prelude.{List, ◌++◌, take, map, codes, if◌then◌else◌}
use Rattle.std.specs.List.{starts_with}
use Rattle.std.specs.Prelude.{nat_eq}
use Rattle.text_model.specs.Texts.{Text}
use Rattle.kev_read.specs.Pairs.{KeyValue, all_of}
use Rattle.openurl_reading.specs.Steps.{Change, Step}
use Rattle.openurl_reading.specs.OldKeys.{filled}

abbrev pub namespace : Text
namespace = codes "info:sid/"

abbrev pub referrer_of : Text → Text
referrer_of sid = if starts_with nat_eq sid namespace then sid else (namespace ++ sid)

abbrev pub referred : List KeyValue → Change
referred pairs = filled (map referrer_of (take 1 (all_of pairs (codes "sid")))) (all_of pairs (codes "rfr_id"))

abbrev pub referrer_step : Step
referrer_step = record { key = codes "rfr_id"; change = referred }
