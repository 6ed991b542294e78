-- The Host fields, counted by their places.
use Rattle.std.proofs.Common.{◌≡◌, ◌∙◌, ℕ, List, map, sym, ap}
use Rattle.std.specs.Prelude.{count_by, cond}
use Rattle.std.specs.List.{sum_by}
use Rattle.text_model.proofs.Lists.{sum_by-map}
use Rattle.httparse.specs.Grammar.{Field}
use Rattle.httparse.specs.Spans.{header_bytes, name_and_value, span_bytes}
use Rattle.httparse.specs.declared.spans.HeaderSpan.{HeaderSpan}
use Rattle.http_request.specs.Host.{host_count, is_host_name}

abbrev one_if_host : List ℕ × List ℕ → ℕ
one_if_host field = cond (is_host_name field.0) 1 0

pub hosts-of_spans : (bytes : List ℕ) (headers : List HeaderSpan) (fields : List Field) → map (header_bytes bytes) headers ≡ map name_and_value fields
    → count_by (λ header. is_host_name (span_bytes bytes header.name)) headers ≡ host_count fields
hosts-of_spans bytes headers fields same =
    sym (sum_by-map one_if_host (header_bytes bytes) headers) ∙ ap (sum_by one_if_host) same ∙ sum_by-map one_if_host name_and_value fields
