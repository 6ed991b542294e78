-- The ASCII characters that the grammar names; the percent sign is with the triplets.
use Rattle.std.specs.Prelude.{ℕ}

-- `{`, which begins an expression
abbrev pub open_brace : ℕ
open_brace = 0x7B

-- `}`, which ends it
abbrev pub close_brace : ℕ
close_brace = 0x7D

-- `,`, between two variables
abbrev pub comma : ℕ
comma = 0x2C

-- `:`, which begins a prefix
abbrev pub colon : ℕ
colon = 0x3A

-- `*`, the explode modifier
abbrev pub asterisk : ℕ
asterisk = 0x2A

-- `.`, between two characters of a name
abbrev pub dot : ℕ
dot = 0x2E

-- `_`, the only character of names that is neither a letter nor a digit
abbrev pub underscore : ℕ
underscore = 0x5F
