use Rattle.std.proofs.Common.{◌≡◌, ◌≤◌, count_by, take}
use Rattle.httparse.specs.Spans.{span_bytes}
use Rattle.http_request.specs.Host.{is_host_name}
use Rattle.http_request.proofs.host.host_count.Given as goal

-- the Host fields so far, which are not more than the fields so far
abbrev pub invariant-loop-field : goal.invariant-loop-field
invariant-loop-field l = record {
  counted : l.hosts ≡ count_by (λ field. is_host_name (span_bytes l.bytes field.name)) (take l.field-index l.field-items);
  few : l.hosts ≤ l.field-index;
}
