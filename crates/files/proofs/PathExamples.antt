-- How paths are printed: on both sides of each end of the control characters of ASCII, and a letter beyond ASCII.
use Rattle.std.proofs.Common.{◌≡◌, ◌++◌, [], ◌∷◌, refl, codes}
use Rattle.std.specs.Fmt.{digits}
use Rattle.std.specs.List.{flat_map}
use Rattle.files.specs.Paths.{path_char}

path_with_control_characters : flat_map path_char (0 ∷ 0x0a ∷ 0x1f ∷ 0x20 ∷ 0x5c ∷ 0x7e ∷ 0x7f ∷ 0x80 ∷ 0xe9 ∷ [])
    ≡ codes "\\x00\\x0a\\x1f \\~\\x7f" ++ 0xc2 ∷ 0x80 ∷ 0xc3 ∷ 0xa9 ∷ []
unfolding digits lib.Utf8.encode
path_with_control_characters = refl
