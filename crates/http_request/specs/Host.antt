-- The Host fields of a request (RFC 9112, section 3.2; RFC 9110, section 5.1: names of fields in either case).
use Rattle.std.specs.Prelude.{ℕ, Bool, List, codes, count_by, map}
use Rattle.std.specs.Char.{to_ascii_lowercase}
use Rattle.std.specs.Str.{bytes_eq}
use Rattle.httparse.specs.Grammar.{Field}

abbrev pub is_host_name : List ℕ → Bool
is_host_name name = bytes_eq (map to_ascii_lowercase name) (codes "host")

-- how many of the fields are Host
abbrev pub host_count : List Field → ℕ
host_count fields = count_by (λ field. is_host_name field.name) fields
