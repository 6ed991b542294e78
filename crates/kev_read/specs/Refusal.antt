-- Why a query is rejected.
use Rattle.std.specs.Prelude.{ℕ, Bool, false, ◌||◌, not, List, length, codes, Option, Some, None, nat_lt, if◌then◌else◌}
use Rattle.std.specs.Option.{option_map_or}
use Rattle.std.specs.Str.{bytes_eq}
use Rattle.text_model.specs.Texts.{Text}
use Rattle.kev_read.specs.Pairs.{KeyValue, pairs_of, first_of}
use Rattle.kev_read.specs.declared.read.TheConstants.{MAX_PAIRS, MAX_QUERY_BYTES}
use Rattle.kev_read.specs.declared.error.KevError.{KevError}
use Rattle.kev_read.specs.declared.error.KevError.TheVariants.{TooLong, TooManyPairs, WrongVersion}

-- a version is stated, and it is not the supported one
abbrev pub is_other_version : Option Text → Bool
is_other_version stated = option_map_or (λ version. not (bytes_eq version (codes "Z39.88-2004"))) stated false

-- the version of the context object, or that of the transport, is another one; both keys may be missing
abbrev pub states_other_version : List KeyValue → Bool
states_other_version pairs =
    is_other_version (first_of pairs (codes "ctx_ver")) || is_other_version (first_of pairs (codes "url_ver"))

-- the first reason in the order length, number of pairs, version
abbrev pub refusal : List ℕ → Option KevError
refusal query =
    if nat_lt MAX_QUERY_BYTES (length query) then Some TooLong
    else (if nat_lt MAX_PAIRS (length (pairs_of query)) then Some TooManyPairs
    else (if states_other_version (pairs_of query) then Some WrongVersion else None))
