-- What each table has: characters beyond ASCII and below the surrogates, and spaces.
use Rattle.std.proofs.Common.{◌≡◌, ℕ, ◌-◌, ◌<◌, ◌≤◌, Bool, true, false, cond, ◌&&◌, ◌||◌, List, length, get_or, refl, sym, ◌∙◌, arith}
use Rattle.std.specs.Prelude.{◌==◌, nat_le, nat_lt}
use Rattle.std.specs.List.{list_all}
use Rattle.std.proofs.lemmas.Bool.{ltb-true, ltb-false}
use Rattle.std.proofs.lemmas.Bool.Decides.{nat_tests}
use Rattle.std.proofs.lemmas.Grind.{common_steps}
use Rattle.std.proofs.lemmas.List.{get_or_past}
use Rattle.std.proofs.lemmas.List.Folds.{list_all_at}
use Rattle.request_encodings.specs.declared.encoding.ByteEncoding.{ByteEncoding}
use Rattle.request_encodings.specs.declared.encoding.ByteEncoding.TheVariants.{Windows1250, Windows1251, Windows1252, Iso8859_2, Iso8859_5}
use Rattle.request_encodings.specs.declared.encoding.ByteEncoding.TheVariants.{Iso8859_15, Koi8R}
use Rattle.request_encodings.specs.Texts.{upper_half, character}

abbrev is_entry : ℕ → Bool
is_entry c = nat_lt c 0xd800 && (c == 0x20 || nat_le 0x80 c)

-- the test over all tables
are_entries : (encoding : ByteEncoding) → list_all is_entry (upper_half encoding) ≡ true
unfolding upper_half
are_entries Windows1250 = refl
are_entries Windows1251 = refl
are_entries Windows1252 = refl
are_entries Iso8859_2 = refl
are_entries Iso8859_5 = refl
are_entries Iso8859_15 = refl
are_entries Koi8R = refl

pub entries_of_half : (encoding : ByteEncoding) → length (upper_half encoding) ≡ 128
unfolding upper_half
entries_of_half Windows1250 = refl
entries_of_half Windows1251 = refl
entries_of_half Windows1252 = refl
entries_of_half Iso8859_2 = refl
entries_of_half Iso8859_5 = refl
entries_of_half Iso8859_15 = refl
entries_of_half Koi8R = refl

at_once : (b : Bool) (p : ℕ → Bool) (xs : List ℕ) (i : ℕ) → i < length xs → list_all p xs ≡ true → p (get_or xs i 0) ≡ b → b ≡ true
at_once true p xs i within all e = refl
at_once false p xs i within all e = sym (list_all_at p xs i 0 within e) ∙ all

entry_at : (encoding : ByteEncoding) (i : ℕ) → i < 128 → is_entry (get_or (upper_half encoding) i 0) ≡ true
entry_at encoding i within =
    at_once _ is_entry (upper_half encoding) i (omega (arith, entries_of_half encoding)) (are_entries encoding) refl

-- ---- the character of a byte

chosen_small : (b e : ℕ) (low : Bool) → b < 0x100 → is_entry e ≡ true → cond (low || e == 0x20) b e < 0xd800
chosen_small b e low byte entry = grind (arith, common_steps, nat_tests)

-- past the table there is no byte
chosen_past : (b e : ℕ) → 0x100 ≤ b → e ≡ 0 → cond (nat_lt b 0x80 || e == 0x20) b e < 0xd800
chosen_past b e past zero = grind (arith, common_steps, nat_tests)

small_of : (b e : ℕ) (is : Bool) → nat_lt b 0x100 ≡ is → (b < 0x100 → is_entry e ≡ true) → (0x100 ≤ b → e ≡ 0)
    → cond (nat_lt b 0x80 || e == 0x20) b e < 0xd800
small_of b e true h entry past = let byte = ltb-true b 0x100 h in chosen_small b e (nat_lt b 0x80) byte (entry byte)
small_of b e false h entry past = let beyond = ltb-false b 0x100 h in chosen_past b e beyond (past beyond)

-- all take at most three bytes, and are no surrogates
pub small : (encoding : ByteEncoding) (b : ℕ) → character encoding b < 0xd800
small encoding b =
    let e : ℕ = get_or (upper_half encoding) (b - 0x80) 0 in
    small_of b e (nat_lt b 0x100) refl (λ byte. entry_at encoding (b - 0x80) (omega arith))
    (λ past. get_or_past (upper_half encoding) (b - 0x80) 0 (omega (arith, entries_of_half encoding)))

chosen_high : (b e : ℕ) → 0x80 ≤ b → is_entry e ≡ true → 0x80 ≤ cond (nat_lt b 0x80 || e == 0x20) b e
chosen_high b e high entry = grind (arith, common_steps, nat_tests)

pub high : (encoding : ByteEncoding) (b : ℕ) → 0x80 ≤ b → b < 0x100 → 0x80 ≤ character encoding b
high encoding b is byte = chosen_high b (get_or (upper_half encoding) (b - 0x80) 0) is (entry_at encoding (b - 0x80) (omega arith))

chosen_low : (b e : ℕ) → b < 0x80 → cond (nat_lt b 0x80 || e == 0x20) b e ≡ b
chosen_low b e low = grind (arith, common_steps, nat_tests)

pub low : (encoding : ByteEncoding) (b : ℕ) → b < 0x80 → character encoding b ≡ b
low encoding b is = chosen_low b (get_or (upper_half encoding) (b - 0x80) 0) is
