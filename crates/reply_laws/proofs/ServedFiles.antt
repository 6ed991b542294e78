-- From the lines of a registry file to what a peer gets.
use Rattle.std.proofs.Common.{◌≡◌, ◌≢◌, ◌≤◌, ℕ, inr, Bool, List, [], ◌∷◌, Option, None, Some, length, refl, sym, ap, ◌∙◌, subst}
use Rattle.std.specs.Prelude.{Ok}
use Rattle.std.proofs.lemmas.List.{append-nil}
use Rattle.text_model.specs.Texts.{Text}
use Rattle.code_file.specs.Grammar.{IsCodeFile}
use Rattle.kev_read.specs.Pairs.{pairs_of}
use Rattle.kev_read.specs.Refusal.{refusal}
use Rattle.kbart_rows.specs.Cells.{Row}
use Rattle.kbart_rows.specs.Reading.{IsTable}
use Rattle.kbart_rows.specs.declared.keys.Keys.{Keys}
use Rattle.menu_source.specs.Menus.{Menus}
use Rattle.registry.specs.Entries.{menu_of}
use Rattle.registry.specs.Targets.{TargetValue}
use Rattle.files.specs.Found.{Disk, File, Found, Gives}
use Rattle.registry_file.specs.Loading.{AreTargets, IsTargetAt}
use Rattle.http_streams.specs.Streams.{AreFresh, InputState, IsBlank, OutputState, Writes}
use Rattle.http_streams.specs.declared.read.TheConstants.{MAX_HEAD_BYTES}
use Rattle.http_request.specs.Routes.{IsRouted, Menu, RouteValue}
use Rattle.http_request.specs.declared.route.Page.{Page}
use Rattle.http_exchange.specs.Exchange.{IsExchange}
use Rattle.http_exchange.specs.Replies.{printed, unavailable}
use Rattle.http_exchange.specs.declared.exchange.Served.TheVariants.{Replied}
use Rattle.rule_menus.specs.CodeFiles.{AreReadFrom, IsReadFrom}
use Rattle.rule_menus.specs.Replies.{HasReply, page_by_rules}
use Rattle.rule_menus.specs.RuleFiles.{TargetFiles, AreOfFiles}
use Rattle.rule_menus.specs.RuleMenus.{RuleTarget}
use Rattle.reply_laws.specs.Files.{AreLinesOf, IsLineOf}
use Rattle.reply_laws.specs.Peers.{Gets}
use Rattle.reply_laws.proofs.OneEnd.{IsPart}
use Rattle.reply_laws.proofs.OneReply.{LawsOfRoutes, answered, same_route}

-- ---- files

-- a file that is known gives its bytes alone
pub given : (found : Found) (bytes others : Text) → found ≡ File others → Gives found bytes → others ≡ bytes
given found bytes others is gives = subst (λ (f : Found). Gives f bytes) is gives

read_target : (disk : Disk) (keys : Keys) (row : Row) (files : TargetFiles) (target : TargetValue) → IsLineOf disk row files
    → IsTargetAt disk keys row target
    → IsReadFrom files target
read_target disk keys row files target l t =
    let same : files.name ∷ (l.code_path ∷ (l.table_path ∷ [])) ≡ target.name ∷ (t.code_path ∷ (t.table_path ∷ [])) = sym l.line.three ∙ t.line.three in
    let name : target.name ≡ files.name = cc in
    let code_path : t.code_path ≡ l.code_path = cc in
    let table_path : t.table_path ≡ l.table_path = cc in
    let code = given (disk t.code_path) t.code.0 l.code_file (ap disk code_path ∙ l.code) t.code.1 in
    let table = given (disk t.table_path) t.table.0 files.table (ap disk table_path ∙ l.table) t.table.1 in
    record {
      name = name;
      file = l.code_file;
      is_of_rules = l.compiled;
      read = subst (λ (bytes : Text). IsCodeFile bytes target.code) (sym code) t.code.2.is_file;
      table = subst (λ (bytes : Text). IsTable bytes target.table) (sym table) t.table.2;
    }

pub read_all : (disk : Disk) (keys : Keys) (rows : List Row) (files : List TargetFiles) (targets : List TargetValue) → AreLinesOf disk rows files
    → AreTargets disk keys rows targets
    → AreReadFrom files targets
read_all disk keys [] [] [] lines held = tt
read_all disk keys [] [] (t ∷ targets) lines held = absurd held
read_all disk keys [] (f ∷ files) targets lines held = absurd lines
read_all disk keys (row ∷ rows) [] targets lines held = absurd lines
read_all disk keys (row ∷ rows) (f ∷ files) [] lines held = absurd held
read_all disk keys (row ∷ rows) (f ∷ files) (t ∷ targets) lines held =
    (read_target disk keys row f t lines.0 held.0, read_all disk keys rows files targets lines.1 held.1)

-- ---- connections

-- nothing was written before, if it is known what was written after
pub blank_before : (old new : Option (List ℕ)) (bytes reply : List ℕ) → IsBlank old → Writes old bytes new → new ≡ Some reply → old ≡ Some []
blank_before None None bytes reply blank writes is = absurd (cc)
blank_before None (Some new) bytes reply blank writes is = absurd writes
blank_before (Some old) new bytes reply blank writes is = ap (λ (l : List ℕ). Some l) blank

pub gets : (menus : Menus) (wait : ℕ) (first last : InputState) (before after : OutputState) (status : ℕ) (sent reply : List ℕ)
    → AreFresh wait first before → IsExchange menus first before (Ok (Replied status)) last after → first.left ≡ Some sent → after.written ≡ Some reply
    → Gets menus sent status reply
gets menus wait first last before after status sent reply fresh exchange peer written =
    record {
      first = first;
      last = last;
      before = before;
      after = after;
      peer = peer;
      blank = blank_before before.written after.written exchange.0 reply fresh.nothing_written exchange.2.written written;
      exchange = exchange;
      written = written;
    }

-- ---- pages

-- a request that fits was read whole
fits : (sent : List ℕ) → length sent ≤ MAX_HEAD_BYTES → IsPart sent sent
fits sent few = record { rest = []; whole = sym (append-nil sent); limit = few; stopped = inr (inr refl) }

-- a reply is decided by rules, files and the bytes that were read
abbrev pub FilesDecide : Type 0
FilesDecide = (files : List TargetFiles) (targets : List TargetValue) (by_rules : List RuleTarget) (request query : List ℕ) (page : Page)
    (without_body : Bool) (status : ℕ) (reply : List ℕ) → AreReadFrom files targets → AreOfFiles files by_rules
    → IsRouted request (Menu page query) without_body → refusal query ≡ None → HasReply targets request status reply
    → (status ≡ 200) × (reply ≡ printed (page_by_rules by_rules page (pairs_of query)) without_body)

pub page_served : LawsOfRoutes → FilesDecide → (files : List TargetFiles) (targets : List TargetValue) (by_rules : List RuleTarget) (sent query : List ℕ)
    (page : Page) (without_body : Bool) (status : ℕ) (reply : List ℕ) → AreReadFrom files targets → AreOfFiles files by_rules
    → length sent ≤ MAX_HEAD_BYTES → IsRouted sent (Menu page query) without_body → refusal query ≡ None → Gets (menu_of targets) sent status reply
    → status ≢ unavailable.status
    → (status ≡ 200) × (reply ≡ printed (page_by_rules by_rules page (pairs_of query)) without_body)
page_served laws decide files targets by_rules sent query page without_body status reply read of_files few routed accepted g no_failure =
    let x = answered (menu_of targets) sent status reply no_failure g in
    let same = same_route laws sent x.bytes sent x.at (Menu page query) x.without_body without_body x.part (fits sent few) x.routed routed in
    let there = subst (λ (at : RouteValue). IsRouted x.bytes at x.without_body) same.0 x.routed in
    let here = subst (IsRouted x.bytes (Menu page query)) same.1 there in
    decide files targets by_rules x.bytes query page without_body status reply read of_files here accepted
    (record { replies = x.replied; no_failure = no_failure })
