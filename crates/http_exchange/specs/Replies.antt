-- Replies, and their bytes (RFC 9112, section 4).
use Rattle.std.specs.Prelude.{ℕ, ◌==◌, Bool, [], ◌++◌, codes, length, if◌then◌else◌}
use Rattle.std.specs.Fmt.{decimal}
use Rattle.text_model.specs.Texts.{Text}
use Rattle.http.specs.StatusCode.{status_text}
use Rattle.http_exchange.specs.declared.reply.BodyType.{BodyType}
use Rattle.http_exchange.specs.declared.reply.BodyType.TheVariants.{Html, Json, Plain}

-- a reply: its status, and its body with its type
pub record ReplyValue : Type 0 where
  pub status : ℕ
  pub body_type : BodyType
  pub body : Text

abbrev pub plain : ℕ → Text → ReplyValue
plain status body = record { status = status; body_type = Plain; body = body }

-- the reply if an allocation failed (RFC 9110, section 15.6.4)
abbrev pub unavailable : ReplyValue
unavailable = plain 503 (codes "out of memory\n")

-- ---- bytes

-- the field that a reply 405 has (RFC 9110, sections 10.2.1 and 15.5.6)
abbrev pub allow_line : ℕ → Text
allow_line status = if status == 405 then codes "Allow: GET, HEAD\r\n" else []

-- to HEAD no body is sent (RFC 9110, section 9.3.2)
abbrev pub sent_body : ReplyValue → Bool → Text
sent_body reply without_body = if without_body then [] else reply.body

abbrev pub status_line : ℕ → Text
status_line status = codes "HTTP/1.1 " ++ (status_text status ++ codes "\r\n")

abbrev pub type_line : BodyType → Text
type_line Html = codes "Content-Type: text/html; charset=utf-8\r\n"
type_line Plain = codes "Content-Type: text/plain; charset=utf-8\r\n"
type_line Json = codes "Content-Type: application/json; charset=utf-8\r\n"

-- the length is that of the body, whether it is sent or not
abbrev pub length_line : ℕ → Text
length_line length = codes "Content-Length: " ++ (decimal length ++ codes "\r\n")

-- the status with its phrase, the fields, and an empty line
abbrev pub head_of : ReplyValue → Text
head_of reply =
    status_line reply.status ++ type_line reply.body_type ++ length_line (length reply.body) ++ codes "Connection: close\r\n"
    ++ allow_line reply.status ++ codes "\r\n"

abbrev pub printed : ReplyValue → Bool → Text
printed reply without_body = head_of reply ++ sent_body reply without_body
