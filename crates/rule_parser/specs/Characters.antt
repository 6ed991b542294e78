-- The ASCII characters that the rule text names.
use Rattle.std.specs.Prelude.{ℕ}

-- ` `, between two tokens
abbrev pub space : ℕ
space = 0x20

-- `"`, around a text
abbrev pub quote : ℕ
quote = 0x22

-- `#`, which begins a comment
abbrev pub number_sign : ℕ
number_sign = 0x23

-- `\`, before a quote or a backslash in a text
abbrev pub backslash : ℕ
backslash = 0x5C
