-- Targets of a registry file, line by line.
use Rattle.std.proofs.Common.{◌≡◌, ℕ, ◌+◌, ◌<◌, ◌≤◌, List, [], ◌∷◌, ◌++◌, inr, length, map, take, drop, get_or, suc, sym, ap, subst, arith, ◌∙◌}
use Rattle.std.proofs.lemmas.List.{take_more, map-append, length-map, length-take}
use Rattle.std.proofs.Math.Seq.{split_at}
use Rattle.text_model.specs.Texts.{Text}
use Rattle.files.specs.Found.{Disk, Gives}
use Rattle.files.specs.declared.call.FileCall.{FileCall}
use Rattle.kbart_rows.specs.Cells.{Row}
use Rattle.kbart_rows.specs.Reading.{AreLines}
use Rattle.kbart_rows.specs.declared.keys.Keys.{Keys}
use Rattle.registry.specs.Targets.{TargetValue}
use Rattle.kbart_rows.specs.RandomKeys.{IsDrawn}
use Rattle.registry_file.specs.Loading.{IsTargetAt, AreTargets, IsRefusedLine, StopsAtLine, IsRegistryFault, IsNotLoaded}
use Rattle.registry_file.specs.declared.lines.TheConstants.{MAX_REGISTRY_BYTES}
use Rattle.registry_file.specs.declared.error.RegistryError.{RegistryError}
use Rattle.registry_file.specs.declared.error.RegistryError.TheVariants.{Device, Line, Target, NoMemory}

module _ (disk : Disk) (keys : Keys) where
  last_target : (rows : List Row) (row : Row) (targets : List TargetValue) (target : TargetValue) → AreTargets disk keys rows targets
      → IsTargetAt disk keys row target
      → AreTargets disk keys (rows ++ row ∷ []) (targets ++ target ∷ [])
  last_target [] row [] target held last = (last, tt)
  last_target [] row (t ∷ targets) target held last = absurd held
  last_target (r ∷ rows) row [] target held last = absurd held
  last_target (r ∷ rows) row (t ∷ targets) target held last = (held.0, last_target rows row targets target held.1 last)

  -- the lines that were read, of which the first n are those of targets, and the next one
  pub record IsNext {X : Type 0} (cells : X → Row) (lines : List X) (n : ℕ) (targets : List TargetValue) (line : X) : Type 0 where
    pub few : n < length lines
    pub is : line ≡ get_or lines n line
    pub held : AreTargets disk keys (map cells (take n lines)) targets

  pub one_more : {X : Type 0} (cells : X → Row) (lines : List X) (n : ℕ) (targets : List TargetValue) (line : X) (target : TargetValue)
      → IsNext cells lines n targets line → IsTargetAt disk keys (cells line) target
      → AreTargets disk keys (map cells (take (n + 1) lines)) (targets ++ target ∷ [])
  one_more cells lines n targets line target next last =
      let at : take (n + 1) lines ≡ take n lines ++ line ∷ [] = take_more lines n line next.few ∙ ap (λ l. take n lines ++ l ∷ []) (sym next.is) in
      rw (at, map-append cells (take n lines) (line ∷ [])) (last_target _ _ targets target next.held last)

  module _ {F : Type 0} (fails : F → FileCall → Text → F → Type 0) where
    stops : {X : Type 0} (cells : X → Row) (lines : List X) (n : ℕ) (targets : List TargetValue) (line : X) (e : RegistryError)
        → IsNext cells lines n targets line
        → IsRefusedLine fails disk targets (n + 1) (cells line) e → StopsAtLine fails disk keys (map cells lines) e
    stops cells lines n targets line e next refused =
        let cut : lines ≡ take n lines ++ line ∷ drop (suc n) lines =
        split_at lines n line next.few ∙ ap (λ l. take n lines ++ l ∷ drop (suc n) lines) (sym next.is) in
        let count : n ≡ length (map cells (take n lines)) = omega (arith, length-map (take n lines) cells, length-take n lines, next.few) in
        record {
          before = map cells (take n lines);
          row = cells line;
          after = map cells (drop (suc n) lines);
          targets = targets;
          whole = ap (map cells) cut ∙ map-append cells (take n lines) (line ∷ drop (suc n) lines);
          held = next.held;
          refused = subst (λ before. IsRefusedLine fails disk targets (before + 1) (cells line) e) count refused;
        }

    -- a line that is rejected, of bytes that are not too many
    pub line_fault : {X : Type 0} (cells : X → Row) (bytes : Text) (lines : List X) (n : ℕ) (targets : List TargetValue) (line : X) (e : RegistryError)
        → length bytes ≤ MAX_REGISTRY_BYTES → AreLines bytes (map cells lines) → IsNext cells lines n targets line
        → IsRefusedLine fails disk targets (n + 1) (cells line) e → IsRegistryFault fails disk keys bytes e
    line_fault cells bytes lines n targets line (Line m) short read next refused =
        record { rows = map cells lines; short = short; lines = read; stops = stops cells lines n targets line (Line m) next refused }
    line_fault cells bytes lines n targets line (Target e) short read next refused =
        record { rows = map cells lines; short = short; lines = read; stops = stops cells lines n targets line (Target e) next refused }
    line_fault cells bytes lines n targets line NoMemory short read next refused = tt
    line_fault cells bytes lines n targets line Device short read next refused = absurd refused

-- the file at the path was read, and keys were drawn
pub record IsRead {K : Type 0} (draws : K → ℕ → ℕ → K → Type 0) (disk : Disk) (old : K) (path : Text) (new : K) (bytes : Text) (keys : Keys) : Type 0 where
  pub short : length bytes ≤ MAX_REGISTRY_BYTES
  pub file : Gives (disk path) bytes
  pub drawn : IsDrawn draws old keys new

pub not_loaded : {F K : Type 0} (fails : F → FileCall → Text → F → Type 0) (draws : K → ℕ → ℕ → K → Type 0) (no_keys : K → K → Type 0) (disk : Disk) (old : K)
    (path : Text) (new : K)
    (bytes : Text) (keys : Keys) (e : RegistryError) → IsRead draws disk old path new bytes keys → IsRegistryFault fails disk keys bytes e
    → IsNotLoaded fails draws no_keys disk old path new e
not_loaded fails draws no_keys disk old path new bytes keys (Line n) read line =
    inr (record { bytes = bytes; keys = keys; file = read.file; drawn = read.drawn; fault = line })
not_loaded fails draws no_keys disk old path new bytes keys (Target e) read line =
    record { bytes = bytes; keys = keys; file = read.file; drawn = read.drawn; fault = line }
not_loaded fails draws no_keys disk old path new bytes keys NoMemory read line = inr (keys, read.drawn)
not_loaded fails draws no_keys disk old path new bytes keys Device read line = absurd line
