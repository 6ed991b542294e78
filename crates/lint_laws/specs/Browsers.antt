-- The host that a browser has of a web link, with its port (URL Standard of the WHATWG, section 4.4): before triplets in it are decoded.
use Rattle.std.specs.Prelude.{ℕ, ◌==◌, ◌||◌, Bool, [], ◌∷◌, if◌then◌else◌}
use Rattle.std.specs.List.{before_first, list_any}
use Rattle.text_model.specs.Texts.{Text}
use Rattle.rule_lint.specs.HostStates.{at_sign, ends_host, slash}

abbrev pub colon : ℕ
colon = 0x3A

-- browsers take `\` for `/`
abbrev pub backslash : ℕ
backslash = 0x5C

abbrev pub is_browsers_slash : ℕ → Bool
is_browsers_slash b = b == slash || b == backslash

abbrev pub ends_browsers_host : ℕ → Bool
ends_browsers_host b = ends_host b || b == backslash

-- what follows the scheme and its colon
abbrev pub after_colon : Text → Text
after_colon [] = []
after_colon (b ∷ t) = if b == colon then t else after_colon t

-- any number of slashes is skipped
abbrev pub after_browsers_slashes : Text → Text
after_browsers_slashes [] = []
after_browsers_slashes (b ∷ t) = if is_browsers_slash b then after_browsers_slashes t else b ∷ t

abbrev pub is_at_sign : ℕ → Bool
is_at_sign b = b == at_sign

-- what is before the last `@` is a user
abbrev pub after_user : Text → Text
after_user [] = []
after_user (b ∷ t) = if list_any is_at_sign (b ∷ t) then after_user t else b ∷ t

abbrev pub browsers_host : Text → Text
browsers_host link = after_user (before_first ends_browsers_host (after_browsers_slashes (after_colon link)))
