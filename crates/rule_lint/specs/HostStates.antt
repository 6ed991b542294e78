-- How far a text has come towards the end of its host (RFC 3986, section 3.2).
use Rattle.std.specs.Prelude.{ℕ, ◌==◌, ◌||◌, nat_eq, Bool, true, false, List, [], ◌∷◌, codes, if◌then◌else◌}
use Rattle.std.specs.List.{list_any}
use Rattle.text_model.specs.Texts.{Text}
use Rattle.rule_lint.specs.declared.host_state.HostState.{HostState}
use Rattle.rule_lint.specs.declared.host_state.HostState.TheVariants.{Outside, Slash, Opened, Inside, Past, Lost}

-- ---- bytes

abbrev pub slash : ℕ
slash = 0x2F

-- what is before it in a host is the name of a user, and the host comes after it
abbrev pub at_sign : ℕ
at_sign = 0x40

-- `/`, `?` and `#` end the host
abbrev pub ends_host : ℕ → Bool
ends_host b = list_any (nat_eq b) (codes "/?#")

-- ---- states

abbrev pub is_past : HostState → Bool
is_past Past = true
is_past other = false

abbrev pub is_inside : HostState → Bool
is_inside Inside = true
is_inside other = false

-- a text that ends like this has no host, or one that is empty or has an `@`
abbrev pub is_hostless : HostState → Bool
is_hostless Opened = true
is_hostless Lost = true
is_hostless other = false

-- ---- one more byte

abbrev pub after_outside : ℕ → HostState
after_outside b = if b == slash then Slash else Outside

abbrev pub after_slash : ℕ → HostState
after_slash b = if b == slash then Opened else Outside

-- the host must not be empty
abbrev pub after_opened : ℕ → HostState
after_opened b = if ends_host b || b == at_sign then Lost else Inside

abbrev pub after_inside : ℕ → HostState
after_inside b = if ends_host b then Past else (if b == at_sign then Lost else Inside)

abbrev pub after_byte : HostState → ℕ → HostState
after_byte Outside b = after_outside b
after_byte Slash b = after_slash b
after_byte Opened b = after_opened b
after_byte Inside b = after_inside b
after_byte Past b = Past
after_byte Lost b = Lost

-- ---- more text

abbrev pub after_text : HostState → Text → HostState
after_text state [] = state
after_text state (b ∷ text) = after_text (after_byte state b) text

-- the state of a text
abbrev pub state_of : Text → HostState
state_of text = after_text Outside text

-- ---- several rows

-- one state for two rows. A row whose host has ended does not matter for what comes next; if the rows differ otherwise, nothing is known
abbrev pub for_both : HostState → HostState → HostState
for_both Past other = other
for_both state Past = state
for_both Outside Outside = Outside
for_both Slash Slash = Slash
for_both Opened Opened = Opened
for_both Inside Inside = Inside
for_both state other = Lost

-- one state for all rows, from their texts, each after the same state; if no row has a text, none matters
abbrev pub after_texts_from : HostState → HostState → List Text → HostState
after_texts_from found state [] = found
after_texts_from found state (text ∷ texts) = after_texts_from (for_both found (after_text state text)) state texts

abbrev pub after_texts : HostState → List Text → HostState
after_texts state texts = after_texts_from Past state texts
