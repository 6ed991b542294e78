-- What is chosen of the resolutions of rows: the first link, or else the last of them.
use Rattle.std.proofs.Common.{◌≡◌, true, false, List, ◌∷◌, refl}
use Rattle.menu.specs.Links.{is_link}
use Rattle.menu.specs.declared.entry.Resolution.{Resolution}
use Rattle.registry.specs.Entries.{chosen}

pub link_first : (so_far resolution : Resolution) (resolutions : List Resolution) → is_link resolution ≡ true → chosen so_far (resolution ∷ resolutions)
    ≡ resolution
link_first so_far resolution resolutions link = rw link refl

pub no_link_first : (so_far resolution : Resolution) (resolutions : List Resolution) → is_link resolution ≡ false → chosen so_far (resolution ∷ resolutions)
    ≡ chosen resolution resolutions
no_link_first so_far resolution resolutions no_link = rw no_link refl
