-- A registry file of one target, whose code file is that of a rule text, and a request for its plain text. The premises of the laws
-- `files_decide_the_page` and `files_decide_replies` are met here, and their conclusions are computed.
use Rattle.std.proofs.Common.{◌≡◌, ℕ, inr, false, List, [], ◌∷◌, Some, None, refl, subst, arith, codes}
use Rattle.std.specs.Prelude.{Err, IsTrue, IsUtf8, Ok, if◌then◌else◌}
use Rattle.std.specs.Char.{encode_utf8}
use Rattle.std.specs.Fmt.{digits}
use Rattle.std.specs.Str.{bytes_eq, chars}
use Rattle.std.proofs.lemmas.List.Elements.{All-nil}
use Rattle.std.proofs.lemmas.Str.{IsUtf8-from_is_utf8}
use Rattle.csv.specs.Reading.{Reached}
use Rattle.httparse.specs.Grammar.{IsField, IsRequestHead, RequestHead, crlf, is_token_byte, is_uri_byte, print_request}
use Rattle.text_model.specs.Texts.{Text, is_unreserved}
use Rattle.text_model.specs.Writing.{written_u}
use Rattle.code_model.specs.Code.{reading}
use Rattle.machine_model.specs.Budget.{is_kept, longest_compared, total}
use Rattle.machine_model.specs.Form.{body_at}
use Rattle.machine_model.specs.Next.{course_from}
use Rattle.machine_model.specs.Operands.{has_right_operands}
use Rattle.kev_read.specs.Pairs.{pairs_of}
use Rattle.kev_read.specs.Refusal.{refusal}
use Rattle.kbart_rows.specs.Cells.{Row}
use Rattle.kbart_rows.specs.Reading.{AreLines}
use Rattle.kbart_rows.proofs.OnLiterals.{kbart_rows_on_literals}
use Rattle.compiler_model.specs.Compiled.{code_of}
use Rattle.verified_runs.specs.Fates.{fate_in}
use Rattle.registry.specs.Entries.{menu_of}
use Rattle.registry.specs.Targets.{TargetValue}
use Rattle.files.specs.Found.{Absent, Disk, File}
use Rattle.registry_file.specs.Loading.{AreTargetsOf, IsTargetAt}
use Rattle.http_streams.specs.Streams.{AreFresh, InputState, OutputState, raised}
use Rattle.http_request.specs.Routes.{IsHeadOf, IsRouted, Menu, by_head}
use Rattle.http_request.specs.declared.route.Page.TheVariants as page
use Rattle.http_exchange.specs.Exchange.{IsExchange, IsReply, front, request}
use Rattle.http_exchange.specs.Replies.{ReplyValue, printed}
use Rattle.http_exchange.specs.RouteReplies.{menu_reply}
use Rattle.http_exchange.specs.declared.exchange.Served.TheVariants.{Replied}
use Rattle.http_exchange.specs.declared.exchange.ServeError.TheVariants.{WriteFault}
use Rattle.rule_menus.specs.Replies.{page_by_rules}
use Rattle.rule_menus.specs.RuleFiles.{AreOfFiles, TargetFiles}
use Rattle.rule_menus.specs.RuleMenus.{RuleTarget, menu_by_rules}
use Rattle.reply_laws.specs.Files.{AreLinesOf, IsRegistryOf}
use Rattle.reply_laws.specs.Peers.{Gets}
use Rattle.reply_laws.specs.Written.{IsWrittenByRules, to_request}
use Rattle.reply_laws.proofs.ExampleFiles.{all_of, code_file, code_is_accepted, is_code_file, is_rule_text, is_table, keys, rule_text, rules, table, table_text}

-- ---- the files of the service

abbrev registry : Text
registry = codes "alpha\talpha.olk\talpha.tsv\n"

abbrev line : Row
line = codes "alpha" ∷ codes "alpha.olk" ∷ codes "alpha.tsv" ∷ []

registry_lines : AreLines registry (line ∷ [])
unfolding kbart_rows_on_literals Reached
registry_lines = (_, _, (_, refl, refl, (refl, refl)), refl)

abbrev disk : Disk
disk path =
    if bytes_eq path (codes "registry.tsv") then File registry
    else (if bytes_eq path (codes "alpha.olk") then File code_file
    else (if bytes_eq path (codes "alpha.tsv") then File table_text else Absent))

abbrev files : List TargetFiles
files = record { name = codes "alpha"; rules = rule_text; table = table_text } ∷ []

abbrev by_rules : List RuleTarget
by_rules = record { name = codes "alpha"; rules = rules; table = table } ∷ []

abbrev target : TargetValue
target = record { name = codes "alpha"; code = code_of rules; table = table }

abbrev targets : List TargetValue
targets = target ∷ []

is_of_files : AreOfFiles files by_rules
is_of_files = (record { name = refl; rules = is_rule_text; table = is_table }, tt)

cells_are_utf8 : IsUtf8 (codes "alpha") × IsUtf8 (codes "alpha.olk") × IsUtf8 (codes "alpha.tsv")
unfolding kbart_rows_on_literals
cells_are_utf8 = (IsUtf8-from_is_utf8 _ refl, IsUtf8-from_is_utf8 _ refl, IsUtf8-from_is_utf8 _ refl)

are_lines : AreLinesOf disk (line ∷ []) files
are_lines = (
  record {
    code_path = codes "alpha.olk";
    table_path = codes "alpha.tsv";
    line = record { three = refl; utf8 = cells_are_utf8 };
    code_file = code_file;
    code = refl;
    compiled = record { rules = rules; are_rules = is_rule_text; compiled = is_code_file };
    table = refl;
  },
  tt,
)

is_registry : IsRegistryOf disk (codes "registry.tsv") files
is_registry = record { registry = registry; file = refl; rows = line ∷ []; lines = registry_lines; targets = are_lines }

is_target : IsTargetAt disk keys line target
is_target = record {
  code_path = codes "alpha.olk";
  table_path = codes "alpha.tsv";
  line = record { three = refl; utf8 = cells_are_utf8 };
  code = (code_file, refl, code_is_accepted);
  table = (table_text, refl, is_table);
  keyed = refl;
}

held : AreTargetsOf disk keys registry targets
held = record { rows = line ∷ []; short = omega arith; lines = registry_lines; held = (is_target, tt) }

lines_are_held : AreLinesOf disk held.rows files
unfolding held
lines_are_held = are_lines

-- ---- a request

abbrev query : List ℕ
query = codes "rft.issn=1"

abbrev sent : List ℕ
sent = codes "GET /openurl.txt?rft.issn=1 HTTP/1.0\r\n\r\n"

abbrev head : RequestHead
head =
    record {
      blank = [];
      method = codes "GET";
      target = codes "/openurl.txt?rft.issn=1";
      minor = 0;
      line_end = crlf;
      fields = [];
      last = crlf;
    }

is_request_head : IsRequestHead head
unfolding is_token_byte kbart_rows_on_literals
is_request_head = record {
  method = (omega arith, all_of (λ b. IsTrue (is_token_byte b)) is_token_byte (λ b t. t) (codes "GET") refl);
  target = (omega arith, all_of (λ b. IsTrue (is_uri_byte b)) is_uri_byte (λ b t. t) (codes "/openurl.txt?rft.issn=1") refl);
  target_text = IsUtf8-from_is_utf8 _ refl;
  minor = omega arith;
  fields = All-nil IsField;
}

is_head : IsHeadOf sent head
unfolding print_request
is_head = record { rest = []; reads = (is_request_head, refl); fields = omega arith }

is_routed : IsRouted sent (Menu page.Text query) false
is_routed = by_head head is_head

is_accepted : refusal query ≡ None
unfolding kbart_rows_on_literals
is_accepted = refl

-- ---- its reply

abbrev reply : List ℕ
reply =
    codes "HTTP/1.1 200 OK\r\nContent-Type: text/plain; charset=utf-8\r\nContent-Length: 21\r\nConnection: close\r\n\r\nalpha\thttp://e.org/b\n"

page_of_the_rules : printed (page_by_rules by_rules page.Text (pairs_of query)) false ≡ reply
unfolding kbart_rows_on_literals reading is_unreserved written_u chars encode_utf8 longest_compared is_kept total body_at digits
page_of_the_rules = refl

abbrev value : ReplyValue
value = menu_reply (menu_of targets) page.Text (pairs_of query)

page_of_the_code : printed value false ≡ reply
unfolding kbart_rows_on_literals fate_in course_from reading has_right_operands is_unreserved written_u chars encode_utf8 longest_compared is_kept total
    body_at digits
page_of_the_code = refl

is_reply : IsReply (menu_of targets) sent 200 reply
unfolding kbart_rows_on_literals
is_reply = subst (IsReply (menu_of targets) sent 200) page_of_the_code (front (Menu page.Text query) false value is_routed refl)

is_reply_by_rules : IsReply (menu_by_rules by_rules) sent 200 reply
unfolding kbart_rows_on_literals
is_reply_by_rules =
    subst (IsReply (menu_by_rules by_rules) sent 200) page_of_the_rules
    (front (Menu page.Text query) false (page_by_rules by_rules page.Text (pairs_of query)) is_routed refl)

-- ---- a connection

abbrev input : List ℕ → ℕ → InputState
input left taken = record { left = Some left; taken = taken; failures = 0; wait = Some 2_000_000_000 }

abbrev output : List ℕ → ℕ → OutputState
output written count = record { written = Some written; sent = count; failures = 0; wait = Some 2_000_000_000 }

is_new : AreFresh 2_000_000_000 (input sent 0) (output [] 0)
is_new =
    record {
      nothing_read = refl;
      no_failed_read = refl;
      read_wait = refl;
      nothing_written = refl;
      nothing_sent = refl;
      no_failed_write = refl;
      write_wait = refl;
    }

has_exchange : IsExchange (menu_of targets) (input sent 0) (output [] 0) (Ok (Replied 200)) (input [] 40) (output reply 120)
unfolding raised
has_exchange = (
  reply,
  request sent 200 reply
      (record { read = record { left = refl; taken = refl; failures = refl; wait = refl }; limit = omega arith; stopped = inr (inr refl) }) (omega arith)
      is_reply,
  record { written = refl; sent = refl; failures = refl; wait = refl },
)

gets_the_page : Gets (menu_of targets) sent 200 reply
gets_the_page =
    record {
      first = input sent 0;
      last = input [] 40;
      before = output [] 0;
      after = output reply 120;
      peer = refl;
      blank = refl;
      exchange = has_exchange;
      written = refl;
    }

-- ---- what is written

whole_reply : IsWrittenByRules by_rules sent (Ok (Replied 200)) reply
whole_reply = to_request 200 reply (omega arith) is_reply_by_rules

-- nine bytes were written, and then a write failed
first_bytes : IsWrittenByRules by_rules sent (Err (WriteFault 9)) (codes "HTTP/1.1 ")
first_bytes = (200, reply, to_request 200 reply (omega arith) is_reply_by_rules, omega arith, refl)
